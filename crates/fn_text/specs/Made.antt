-- What the reader has in memory, as the state that it stands for: formulas in place of guards.
use Rattle.std.specs.Prelude.{◌≡◌, List, map, reverse, option_map, Result, Ok, Err}
use Rattle.fn_rules.specs.Formulas.{formula_of}
use Rattle.fn_rules.specs.Functions.{GuardedCase, case_of}
use Rattle.fn_rules.specs.Building.{PairCases, block_of}
use Rattle.fn_text.specs.declared.stop.TextError.{TextError}
use Rattle.fn_text.specs.declared.stop.TextError.TheVariants as errors
use Rattle.fn_text.specs.declared.reader.Nesting.{Nesting}
use Rattle.fn_text.specs.declared.reader.FunctionReader.{FunctionReader}
use Rattle.fn_tokens.specs.declared.fault.TextFault.{TextFault}
use Rattle.fn_tokens.specs.Meaning.{Formulas}
use Rattle.fn_text.specs.Reader.{State}
use Rattle.fn_text.specs.Reader as plain

abbrev pub plain_nesting_of : Nesting → plain.Nesting Formulas
plain_nesting_of nesting = record {
  outside = nesting.outside;
  nots = nesting.nots;
  any = option_map formula_of nesting.any;
  all = option_map formula_of nesting.all;
}

-- the innermost first, which is the last one in memory
abbrev pub outer_of : List Nesting → List (plain.Nesting Formulas)
outer_of nestings = map plain_nesting_of (reverse nestings)

abbrev pub state_of : FunctionReader → State Formulas GuardedCase PairCases
state_of reader = record {
  control = reader.control;
  any = option_map formula_of reader.any;
  all = option_map formula_of reader.all;
  last = formula_of reader.last;
  outer = outer_of reader.outer.items;
  guard = formula_of reader.guard;
  cases = map case_of reader.cases.items;
  done = map block_of reader.done.items;
}

-- what a call answered, seen by a view, is what is read, unless memory ran out
abbrev pub Fails : {Y : Type 0} → TextError → Result Y TextFault → Type 0
Fails errors.NoMemory read = Unit {0}
Fails (errors.Fault fault) read = read ≡ Err fault

abbrev pub GivesView : {X Y : Type 0} → (X → Y) → Result X TextError → Result Y TextFault → Type 0
GivesView view (Ok x) read = read ≡ Ok (view x)
GivesView view (Err e) read = Fails e read
