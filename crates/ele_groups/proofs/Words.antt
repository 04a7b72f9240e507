-- The words of the crates that proofs here use, in one place.
pub use Rattle.ele_groups.specs.Except.{cover_but, marks_but, row_cover}
pub use Rattle.ele_groups.specs.Kept.{AreKept, AreOf, IsNamed, changed_at, has_file, row_at}
pub use Rattle.ele_groups.specs.Members.{has, memberships_of}
pub use Rattle.ele_groups.specs.Timed.{AreApart, AreMarksApart, AreTimed, IsFirst}
pub use Rattle.ele_groups.specs.declared.memberships.Membership.{Membership}
pub use Rattle.ele_groups.specs.declared.memberships.Memberships.{Memberships}
pub use Rattle.ele_groups.specs.declared.span.Except.{Except}
pub use Rattle.ele_moment.specs.Last.{last_moment}
pub use Rattle.ele_model.specs.GroupRows.{adds, covers_moment, forgets, forgotten, is_group, is_mark, is_member, marks, new_group, removes, unmarks}
pub use Rattle.ele_model.specs.GroupsAsked.{is_left_out, marks_left}
pub use Rattle.ele_model.specs.Cover.{cover_by, cover_until, longer}
pub use Rattle.ele_model.specs.declared.cover.Cover.{Cover}
pub use Rattle.ele_model.specs.declared.cover.Cover.TheVariants.{Always, Free, Until}
pub use Rattle.ele_model.specs.declared.rows.MarkRow.{MarkRow}
pub use Rattle.ele_model.specs.declared.rows.GroupRow.{GroupRow}
