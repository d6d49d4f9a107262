-- The grammar computes: guards by their precedence, and a whole file with comments, leading zeros and
-- parentheses that the canonical text has not.
use Rattle.std.proofs.Common.{◌≡◌, ℕ, ℤ, pos, true, false, List, [], ◌∷◌, ◌++◌, refl}
use Rattle.std.specs.Prelude.{codes}
use Rattle.ot_model.specs.declared.op.Kind.TheVariants.{Ins}
use Rattle.ot_model.specs.declared.op.Mode.TheVariants.{Plain}
use Rattle.fn_rules.specs.declared.guard.Side.TheVariants.{First}
use Rattle.fn_rules.specs.declared.guard.Sort.{Sort}
use Rattle.fn_rules.specs.declared.guard.Sort.TheVariants.{Pos, Site}
use Rattle.fn_rules.specs.declared.guard.Side.{Side}
use Rattle.fn_rules.specs.declared.guard.Cmp.{Cmp}
use Rattle.fn_rules.specs.declared.guard.Cmp.TheVariants.{Lt, Le}
use Rattle.fn_rules.specs.declared.guard.Tightness.TheVariants.{Loose, Tight}
use Rattle.fn_rules.specs.declared.function.Head.{Head}
use Rattle.fn_rules.specs.declared.function.Res.TheVariants as results
use Rattle.fn_rules.specs.Formulas.{Formula}
use Rattle.fn_rules.specs.Formulas as formulas
use Rattle.fn_rules.specs.Functions.{Function}
use Rattle.fn_rules.specs.Building.{function_from}
use Rattle.fn_tokens.specs.declared.token.Sign.TheVariants as signs
use Rattle.fn_tokens.specs.declared.control.Written.TheVariants as written
use Rattle.fn_tokens.specs.Words.{word_token}
use Rattle.fn_tokens.specs.Tokens.{front_of}
use Rattle.fn_tokens.specs.Spelling.{spelled_from}
use Rattle.fn_tokens.specs.declared.language.Language.TheVariants as languages
use Rattle.fn_grammar.specs.Print.{head_tokens}
use Rattle.fn_tokens.specs.Meaning.{to_formulas}
use Rattle.fn_grammar.specs.Grammar.{Phrase, Always, Compare, Shifted, Negated, Round, One, Both, Single, Either}
use Rattle.fn_grammar.specs.Grammar.{written_as, made, WrittenBlock, IsTextOf}

abbrev compared : Sort → Side → Cmp → ℤ → Formula
compared sort left cmp k = formulas.Compare (record { sort = sort; left = left; cmp = cmp; k = k })

abbrev before : Phrase Tight
before = Compare Pos First Lt

abbrev sites_before : Phrase Tight
sites_before = Compare Site First Lt

-- `not` takes one operand, and leaves an `and` behind it alone
abbrev not_before_and_sites : Phrase Loose
not_before_and_sites = Single (Both (One (Negated before)) sites_before)

not_binds_tightest : spelled_from true (written_as not_before_and_sites) ≡ codes "not p1 < p2 and s1 < s2"
not_binds_tightest = refl

not_means : made to_formulas not_before_and_sites
    ≡ formulas.And (formulas.Not (compared Pos First Lt (pos 0))) (compared Site First Lt (pos 0))
not_means = refl

-- `and` holds its operands more tightly than `or`
abbrev true_or_both : Phrase Loose
true_or_both = Either (Single (One Always)) (Both (One before) sites_before)

and_binds_tighter : spelled_from true (written_as true_or_both) ≡ codes "true or p1 < p2 and s1 < s2"
and_binds_tighter = refl

and_means : made to_formulas true_or_both
    ≡ formulas.Or formulas.Always (formulas.And (compared Pos First Lt (pos 0)) (compared Site First Lt (pos 0)))
and_means = refl

abbrev newline : List ℕ
newline = 10 ∷ []

abbrev lines : List ℕ
lines = codes "block ins ins" ++ newline ++ codes "case(p1<=p2+099):ins p1-0" ++ newline ++ codes "end"

abbrev text : List ℕ
text =
    codes "# far apart" ++ newline ++ codes "otfn 01" ++ newline ++ newline ++ codes "text plain" ++ newline
    ++ codes "kinds  ins# all" ++ newline ++ lines

abbrev head : Head
head = record { mode = Plain; ins = true; del = false; upd = false; sites_differ = false; chars_differ = false }

-- the block of these lines as the grammar writes it, with an atom in parentheses
abbrev blocks : List WrittenBlock
blocks =
    record {
      first = Ins;
      second = Ins;
      cases = record {
        guard = Single (One (Round (Single (One (Shifted First Le signs.Plus 99)))));
        result =
            written.Moved First signs.Minus 0;
      } ∷ [];
    }
    ∷ []

-- the function of one case that the text is of
abbrev far : Function
far =
    function_from head
    (record {
      first = Ins;
      second = Ins;
      cases =
          record { guard = compared Pos First Le (pos 99); res = results.Keep First (pos 0) } ∷ [];
    } ∷ [])

text_is_of_far : IsTextOf text far
unfolding front_of word_token head_tokens
text_is_of_far =
    record { language = languages.One; head = head; blocks = blocks; allowed = refl; written = refl; means = refl }

-- the same function in the second language
text_in_two :
    IsTextOf (codes "otfn 2" ++ newline ++ codes "text plain" ++ newline ++ codes "kinds ins" ++ newline ++ lines) far
unfolding front_of word_token head_tokens
text_in_two =
    record { language = languages.Two; head = head; blocks = blocks; allowed = refl; written = refl; means = refl }
