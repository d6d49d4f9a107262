-- Offsets that a function's text can have.
use Rattle.std.specs.Prelude.{◌≤◌, unsigned_abs}
use Rattle.fn_rules.specs.declared.guard.Atom.{Atom}
use Rattle.fn_rules.specs.declared.function.Res.{Res}
use Rattle.fn_rules.specs.declared.function.Res.TheVariants as results
use Rattle.fn_rules.specs.Functions.{GuardedCase}
use Rattle.fn_rules.specs.Formulas.{Formula, Always, Compare, And, Or, Not}

-- the offset is in -99 to 99
abbrev pub HasOffset : Atom → Type 0
HasOffset atom = unsigned_abs atom.k ≤ 99

-- each offset of a guard is
abbrev pub HasOffsets : Formula → Type 0
HasOffsets Always = Unit {0}
HasOffsets (Compare atom) = HasOffset atom
HasOffsets (And g h) = HasOffsets g × HasOffsets h
HasOffsets (Or g h) = HasOffsets g × HasOffsets h
HasOffsets (Not g) = HasOffsets g

-- a result's offset is
abbrev pub HasResultOffset : Res → Type 0
HasResultOffset (results.Keep base k) = unsigned_abs k ≤ 99
HasResultOffset results.Nop = Unit {0}

-- each offset of a case is
abbrev pub HasCaseOffsets : GuardedCase → Type 0
HasCaseOffsets c = HasOffsets c.guard × HasResultOffset c.res
