pub mod Values
pub use Rattle.ot_model.specs.Cells
pub use Rattle.diff_tables.specs.Solutions
pub use Rattle.ot_questions.specs.Sorts
pub use Rattle.ot_questions.specs.Meaning
