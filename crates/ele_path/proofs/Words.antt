-- The words of the crates that proofs here use, in one place.
pub use Rattle.ele_moment.specs.Name.{IsName, is_name_byte}
pub use Rattle.ele_moment.specs.Number.{SpellsNumber}
pub use Rattle.ele_moment.specs.Spelled.{SpellsMoment}
pub use Rattle.ele_path.specs.Begins.{is_tag_text}
pub use Rattle.ele_path.specs.FirstFault.{is_name, path_fault, piece_fault, piece_faults, piece_faults_from}
pub use Rattle.ele_path.specs.NameStart.{IsNameStart}
pub use Rattle.ele_path.specs.OneMeaning.{OneMeaning}
pub use Rattle.ele_path.specs.Path.{IsNamesText, IsPath, IsPathText, SpellsPath, names_of, path_text, pieces_of}
pub use Rattle.ele_path.specs.PathText.{path_word}
pub use Rattle.ele_path.specs.PathAt.{IsMomentFault, IsNumbered, IsPathAtFault, SpellsPathAt, tag_at}
pub use Rattle.ele_path.specs.Tagged.{SpellsTag, SpellsTaggedPath, is_mark}
pub use Rattle.ele_path.specs.TaggedFault.{IsTagFault, IsTaggedFault, no_moment, no_number, of_path, of_tag, path_part, tag_part}
pub use Rattle.ele_path.specs.declared.fault.PathAtFault.{PathAtFault}
pub use Rattle.ele_path.specs.declared.fault.PathAtFault.TheVariants.{Numbered, Path}
pub use Rattle.ele_path.specs.declared.fault.PathFault.{PathFault}
pub use Rattle.ele_path.specs.declared.fault.PathFault.TheVariants.{BadMoment, BadPath, NoMemory}
pub use Rattle.ele_path.specs.declared.path_at.PathAt.{PathAt}
pub use Rattle.ele_path.specs.declared.tagged.Tag.{Tag}
pub use Rattle.ele_path.specs.declared.tagged.Tag.TheVariants.{At, Now, Number}
pub use Rattle.ele_path.specs.declared.tagged.TaggedPath.{TaggedPath}
