pub mod ChangeText
