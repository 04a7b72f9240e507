mod Words
mod Due
mod Marks
mod OtherGroups
