-- The names of the integers that an obligation asks about: zero, the length of the document, the index
-- at which final documents are compared, and of each operation its position, site and character.
use Rattle.std.specs.Prelude.{ℕ}
use Rattle.fn_rules.specs.declared.function.ObName.{ObName}
use Rattle.fn_rules.specs.declared.function.ObName.TheVariants.{Pair, Triple}
use Rattle.ot_questions.specs.declared.name.Who.{Who}
use Rattle.ot_questions.specs.declared.name.Who.TheVariants.{A, B, C}

abbrev pub zero_name : ℕ
zero_name = 0

abbrev pub length_name : ℕ
length_name = 1

abbrev pub index_name : ℕ
index_name = 2

abbrev pub position_name : Who → ℕ
position_name A = 3
position_name B = 6
position_name C = 9

abbrev pub site_name : Who → ℕ
site_name A = 4
site_name B = 7
site_name C = 10

abbrev pub char_name : Who → ℕ
char_name A = 5
char_name B = 8
char_name C = 11

-- how many names an obligation uses
abbrev pub name_count : ObName → ℕ
name_count (Pair k l) = 9
name_count (Triple k l m) = 12
