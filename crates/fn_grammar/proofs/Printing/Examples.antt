-- The canonical text computes: whole files, and each case of precedence.
use Rattle.std.proofs.Common.{◌≡◌, ℕ, ℤ, pos, negsuc, true, false, List, [], ◌∷◌, ◌++◌, refl}
use Rattle.std.specs.Prelude.{codes}
use Rattle.std.specs.Fmt.{digits}
use Rattle.ot_model.specs.declared.op.Mode.TheVariants.{Plain, Tomb}
use Rattle.fn_rules.specs.declared.guard.Side.TheVariants.{First, Second}
use Rattle.fn_rules.specs.declared.guard.Sort.{Sort}
use Rattle.fn_rules.specs.declared.guard.Sort.TheVariants.{Pos, Site, Char}
use Rattle.fn_rules.specs.declared.guard.Side.{Side}
use Rattle.fn_rules.specs.declared.guard.Cmp.{Cmp}
use Rattle.fn_rules.specs.declared.guard.Cmp.TheVariants.{Lt, Le, Eq}
use Rattle.fn_rules.specs.declared.guard.Tightness.TheVariants.{Loose}
use Rattle.fn_rules.specs.declared.function.Res.TheVariants.{Keep, Nop}
use Rattle.fn_rules.specs.Formulas.{Formula, Always, Compare, And, Or, Not}
use Rattle.ot_model.specs.declared.op.Kind.{Kind}
use Rattle.ot_model.specs.declared.op.Kind.TheVariants.{Ins, Del, Upd}
use Rattle.fn_rules.specs.Functions.{Function, GuardedCase}
use Rattle.fn_rules.specs.Building.{PairCases, function_from}
use Rattle.fn_tokens.specs.Spelling.{spelled_from}
use Rattle.fn_grammar.specs.Print.{guard_tokens, head_tokens, declared_block, printed}

abbrev compared : Sort → Side → Cmp → ℤ → Formula
compared sort left cmp k = Compare (record { sort = sort; left = left; cmp = cmp; k = k })

abbrev before : Formula
before = compared Pos First Lt (pos 0)

abbrev sites_before : Formula
sites_before = compared Site First Lt (pos 0)

abbrev same_char : Formula
same_char = compared Char Second Eq (pos 0)

abbrev text : Formula → List ℕ
text g = spelled_from true (guard_tokens Loose g)

and_groups_from_the_left : text (And (And before sites_before) same_char) ≡ codes "p1 < p2 and s1 < s2 and c2 = c1"
and_groups_from_the_left = refl

and_on_the_right : text (And before (And sites_before same_char)) ≡ codes "p1 < p2 and ( s1 < s2 and c2 = c1 )"
and_on_the_right = refl

or_groups_from_the_left : text (Or (Or before sites_before) same_char) ≡ codes "p1 < p2 or s1 < s2 or c2 = c1"
or_groups_from_the_left = refl

or_on_the_right : text (Or before (Or sites_before same_char)) ≡ codes "p1 < p2 or ( s1 < s2 or c2 = c1 )"
or_on_the_right = refl

and_binds_tighter : text (Or (And before sites_before) (And same_char Always))
    ≡ codes "p1 < p2 and s1 < s2 or c2 = c1 and true"
and_binds_tighter = refl

or_in_and : text (And (Or before sites_before) (Or same_char Always))
    ≡ codes "( p1 < p2 or s1 < s2 ) and ( c2 = c1 or true )"
or_in_and = refl

not_binds_tightest : text (And (Not before) (Not (Not Always))) ≡ codes "not p1 < p2 and not not true"
not_binds_tightest = refl

and_in_not : text (Not (And before sites_before)) ≡ codes "not ( p1 < p2 and s1 < s2 )"
and_in_not = refl

or_in_not : text (Not (Or before sites_before)) ≡ codes "not ( p1 < p2 or s1 < s2 )"
or_in_not = refl

abbrev block : Kind → Kind → List GuardedCase → PairCases
block k l cases = record { first = k; second = l; cases = cases }

abbrev newline : List ℕ
newline = 10 ∷ []

-- insertions that meet far off
abbrev far : Function
far =
    function_from record {
      mode = Plain;
      ins = true;
      del = false;
      upd = false;
      sites_differ = false;
      chars_differ =
          false;
    } (block Ins Ins (record { guard = compared Pos First Le (pos 99); res = Keep First (pos 0) } ∷ []) ∷ [])

far_text : printed far
    ≡ codes "otfn 1" ++ newline ++ codes "text plain" ++ newline ++ codes "kinds ins" ++ newline
    ++ codes "block ins ins" ++ newline
    ++ codes "case p1 <= p2 + 99 : ins p1" ++ newline ++ codes "end" ++ newline
unfolding digits head_tokens declared_block
far_text = refl

abbrev insertions : Function
insertions =
    function_from record {
      mode = Plain;
      ins = true;
      del = false;
      upd = false;
      sites_differ = true;
      chars_differ = false;
    }
    (block Ins Ins (
    record { guard = before; res = Keep First (pos 0) }
    ∷ record { guard = And (compared Pos First Eq (pos 0)) sites_before; res = Keep First (pos 0) }
    ∷ record { guard = Always; res = Keep First (pos 1) }
    ∷ []) ∷ [])

insertions_text : printed insertions
    ≡ codes "otfn 1" ++ newline ++ codes "text plain" ++ newline ++ codes "kinds ins" ++ newline
    ++ codes "assume sites differ" ++ newline
    ++ codes "block ins ins" ++ newline ++ codes "case p1 < p2 : ins p1" ++ newline
    ++ codes "case p1 = p2 and s1 < s2 : ins p1" ++ newline
    ++ codes "case true : ins p1 + 1" ++ newline ++ codes "end" ++ newline
unfolding digits head_tokens declared_block
insertions_text = refl

-- both kinds, with tombstones: four blocks in their order
abbrev both : Function
both =
    function_from record { mode = Tomb; ins = true; del = true; upd = false; sites_differ = true; chars_differ = true }
    (block Del Del (record { guard = compared Pos Second Lt (negsuc 11); res = Keep First (pos 0) } ∷ [])
    ∷ block Del Ins (record { guard = Always; res = Nop } ∷ [])
    ∷ block Ins Del (record { guard = Always; res = Keep Second (negsuc 0) } ∷ [])
    ∷ [])

both_text : printed both
    ≡ codes "otfn 1" ++ newline ++ codes "text tomb" ++ newline ++ codes "kinds ins del" ++ newline
    ++ codes "assume sites differ"
    ++ newline
    ++ codes "assume chars differ" ++ newline ++ codes "block ins ins" ++ newline ++ codes "block ins del" ++ newline
    ++ codes "case true : ins p2 - 1" ++ newline ++ codes "block del ins" ++ newline
    ++ codes "case true : nop" ++ newline
    ++ codes "block del del" ++ newline ++ codes "case p2 < p1 - 12 : del p1" ++ newline ++ codes "end" ++ newline
unfolding digits head_tokens declared_block
both_text = refl

-- updates: the second language
abbrev updates : Function
updates =
    function_from record {
      mode = Plain;
      ins = false;
      del = false;
      upd = true;
      sites_differ = false;
      chars_differ =
          false;
    } (block Upd Upd (record { guard = compared Char First Lt (pos 0); res = Keep First (pos 0) } ∷ []) ∷ [])

updates_text : printed updates
    ≡ codes "otfn 2" ++ newline ++ codes "text plain" ++ newline ++ codes "kinds upd" ++ newline
    ++ codes "block upd upd" ++ newline
    ++ codes "case c1 < c2 : upd p1" ++ newline ++ codes "end" ++ newline
unfolding digits head_tokens declared_block
updates_text = refl
