-- The comparison of starts, computed.
use Rattle.std.proofs.Common.{◌≡◌, ℕ, ℤ, pos, negsuc, Some, None, List, [], ◌∷◌, refl}
use Rattle.diff_graph.specs.declared.lit.Lit.{Lit}
use Rattle.ot_model.specs.declared.op.Kind.TheVariants as kinds
use Rattle.fn_rules.specs.declared.function.ObName.TheVariants.{Pair, Triple}
use Rattle.ot_questions.specs.declared.name.Who.TheVariants.{A, B, C}
use Rattle.ot_questions.specs.declared.place.SymOp.{SymOp}
use Rattle.ot_questions.specs.declared.place.SymOp.TheVariants.{Ins, Del, Nop}
use Rattle.ot_questions.specs.Places.{place, sym_op}
use Rattle.start_laws.specs.Starts.{Start, still_read, compare_starts}

-- the literal `x <= y + k`
abbrev lit : ℕ → ℕ → ℤ → Lit
lit x y k = record { x = x; y = y; k = k }

-- the deletion of `b`, or of `c`, at the position of a name plus an offset
abbrev b_at : ℕ → ℤ → SymOp
b_at x off = Del (place x off) 7

abbrev c_at : ℕ → ℤ → SymOp
c_at x off = Del (place x off) 10

abbrev deletions : List SymOp
deletions = sym_op kinds.Del A ∷ sym_op kinds.Del B ∷ sym_op kinds.Del C ∷ []

-- after results of three deletions
abbrev triple_after : List SymOp → Start
triple_after got = record { ob = Triple kinds.Del kinds.Del kinds.Del; ops = deletions; got = got }

abbrev pair_after : List SymOp → Start
pair_after got = record { ob = Pair kinds.Del kinds.Del; ops = deletions; got = got }

-- equal starts need nothing, also where no result is there yet
nothing_done : compare_starts (triple_after []) (triple_after []) ≡ Some []
nothing_done = refl

equal_starts : compare_starts (triple_after (b_at 6 (pos 0) ∷ c_at 9 (negsuc 0) ∷ []))
    (triple_after (b_at 6 (pos 0) ∷ c_at 9 (negsuc 0) ∷ []))
    ≡ Some []
equal_starts = refl

nop_beside_nop : compare_starts (pair_after (Nop ∷ [])) (pair_after (Nop ∷ [])) ≡ Some []
nop_beside_nop = refl

-- In the lemma's start `b` stands at its own position, here at that of `a`: these are to be one position.
two_names : compare_starts (pair_after (b_at 6 (pos 0) ∷ [])) (pair_after (b_at 3 (pos 0) ∷ []))
    ≡ Some (lit 3 6 (pos 0) ∷ lit 6 3 (pos 0) ∷ [])
two_names = refl

-- 3 + 1 here is 6 - 1 in the lemma's start: 3 <= 6 - 2 and 6 <= 3 + 2
two_names_with_offsets : compare_starts (pair_after (b_at 6 (negsuc 0) ∷ [])) (pair_after (b_at 3 (pos 1) ∷ []))
    ≡ Some (lit 3 6 (negsuc 1) ∷ lit 6 3 (pos 2) ∷ [])
two_names_with_offsets = refl

-- the conditions of the first result come before those of the second one
two_results : compare_starts (triple_after (b_at 6 (pos 0) ∷ c_at 9 (pos 0) ∷ []))
    (triple_after (b_at 3 (pos 0) ∷ c_at 3 (pos 0) ∷ []))
    ≡ Some (lit 3 6 (pos 0) ∷ lit 6 3 (pos 0) ∷ lit 3 9 (pos 0) ∷ lit 9 3 (pos 0) ∷ [])
two_results = refl

-- two offsets of one name are no conditions: no integers make them equal
two_offsets : compare_starts (pair_after (b_at 6 (pos 0) ∷ [])) (pair_after (b_at 6 (negsuc 0) ∷ [])) ≡ None
two_offsets = refl

two_kinds : compare_starts (pair_after (b_at 6 (pos 0) ∷ [])) (pair_after (Ins (place 6 (pos 0)) 8 7 ∷ [])) ≡ None
two_kinds = refl

nop_beside_another : compare_starts (pair_after (Nop ∷ [])) (pair_after (b_at 6 (pos 0) ∷ [])) ≡ None
nop_beside_another = refl

two_sites : compare_starts (pair_after (b_at 6 (pos 0) ∷ [])) (pair_after (Del (place 6 (pos 0)) 4 ∷ [])) ≡ None
two_sites = refl

two_characters : compare_starts (pair_after (Ins (place 6 (pos 0)) 8 7 ∷ []))
    (pair_after (Ins (place 6 (pos 0)) 5 7 ∷ [])) ≡ None
two_characters = refl

two_counts : compare_starts (triple_after (b_at 6 (pos 0) ∷ [])) (triple_after (b_at 6 (pos 0) ∷ Nop ∷ [])) ≡ None
two_counts = refl

two_obligations : compare_starts (pair_after []) (triple_after []) ≡ None
two_obligations = refl

-- The results `b` and `c` after `a` are not read once the form of `c` after both is there: they may be any.
not_read_any_more : compare_starts (triple_after (b_at 6 (pos 0) ∷ c_at 9 (pos 0) ∷ c_at 9 (negsuc 0) ∷ []))
    (triple_after (Nop ∷ c_at 9 (negsuc 0) ∷ c_at 9 (negsuc 0) ∷ []))
    ≡ Some []
not_read_any_more = refl

still_read_before : compare_starts (triple_after (b_at 6 (pos 0) ∷ c_at 9 (pos 0) ∷ []))
    (triple_after (Nop ∷ c_at 9 (pos 0) ∷ [])) ≡ None
still_read_before = refl

-- the results that are read where the next transformation has a number: the number is how many there are
module _ (r0 r1 r2 r3 r4 : SymOp) where
  abbrev of_pair : List SymOp → List SymOp
  of_pair = still_read (Pair kinds.Ins kinds.Del)

  abbrev of_triple : List SymOp → List SymOp
  of_triple = still_read (Triple kinds.Ins kinds.Ins kinds.Del)

  pair_number_0 : of_pair [] ≡ []
  pair_number_0 = refl

  pair_number_1 : of_pair (r0 ∷ []) ≡ r0 ∷ []
  pair_number_1 = refl

  triple_number_0 : of_triple [] ≡ []
  triple_number_0 = refl

  triple_number_1 : of_triple (r0 ∷ []) ≡ r0 ∷ []
  triple_number_1 = refl

  triple_number_2 : of_triple (r0 ∷ r1 ∷ []) ≡ r0 ∷ r1 ∷ []
  triple_number_2 = refl

  triple_number_3 : of_triple (r0 ∷ r1 ∷ r2 ∷ []) ≡ r2 ∷ []
  triple_number_3 = refl

  triple_number_4 : of_triple (r0 ∷ r1 ∷ r2 ∷ r3 ∷ []) ≡ r2 ∷ r3 ∷ []
  triple_number_4 = refl

  triple_number_5 : of_triple (r0 ∷ r1 ∷ r2 ∷ r3 ∷ r4 ∷ []) ≡ r2 ∷ r3 ∷ r4 ∷ []
  triple_number_5 = refl
