-- The two languages: their numbers, and the words that they have for kinds.
use Rattle.std.proofs.Common.{◌≡◌, ℕ, ◌==◌, Bool, true, false, not, ◌||◌, cond, Option, Some, None, refl, sym, ap, ◌∙◌}
use Rattle.std.proofs.Common.{rules}
use Rattle.std.specs.Option.{is_none}
use Rattle.std.specs.Prelude.{option_map}
use Rattle.std.proofs.lemmas.Bool.Decides.{nat_tests}
use Rattle.ot_model.specs.declared.op.Kind.{Kind}
use Rattle.ot_model.specs.declared.op.Kind.TheVariants as kinds
use Rattle.ot_model.specs.declared.op.TheConstants.{KINDS}
use Rattle.ot_model.specs.Kinds.{is_same_kind}
use Rattle.fn_rules.specs.declared.function.Head.{Head}
use Rattle.fn_rules.specs.Functions.{is_declared}
use Rattle.fn_tokens.specs.declared.language.Language.{Language}
use Rattle.fn_tokens.specs.declared.language.Language.TheVariants.{One, Two}
use Rattle.fn_tokens.specs.Kinds.{with_kind}
use Rattle.fn_tokens.specs.Languages.{language_numbered, number_of, has_word, has_words}
use Rattle.fn_grammar.proofs.KindLists.{list_all_from, each_kind_true, same_kind}

pub numbered : (language : Language) → language_numbered (number_of language) ≡ Some language
numbered One = refl
numbered Two = refl

-- the number of a language is its own
pub numbered_is : (n : ℕ) (language : Language) → language_numbered n ≡ Some language → number_of language ≡ n
numbered_is n language e = by (n == 1) (n == 2) refl refl e
  where
    by : (one two : Bool) → (n == 1) ≡ one → (n == 2) ≡ two
        → cond one (Some One) (cond two (Some Two) None) ≡ Some language → number_of language ≡ n
    by true two is other found =
        let same : One ≡ language = cc in let number : 1 ≡ n = search (rules, nat_tests) in
        sym (ap (λ x. number_of x) same) ∙ number
    by false true is other found =
        let same : Two ≡ language = cc in let number : 2 ≡ n = search (rules, nat_tests) in
        sym (ap (λ x. number_of x) same) ∙ number
    by false false is other found = absurd (cc)

-- no language has a number that is refused
pub none_numbered : {X : Type 0} (f : Language → X) (found : Option Language)
    → option_map f found ≡ None → is_none found ≡ true
none_numbered f None e = refl
none_numbered f (Some language) e = absurd (cc)

pub has_word-ins : (language : Language) → has_word language kinds.Ins ≡ true
has_word-ins One = refl
has_word-ins Two = refl

-- a kind more is declared, and all that were
pub declared_more : (head : Head) (k i : Kind)
    → is_declared (with_kind head k) i ≡ (is_same_kind i k || is_declared head i)
declared_more head kinds.Ins kinds.Ins = refl
declared_more head kinds.Ins kinds.Del = refl
declared_more head kinds.Ins kinds.Upd = refl
declared_more head kinds.Del kinds.Ins = refl
declared_more head kinds.Del kinds.Del = refl
declared_more head kinds.Del kinds.Upd = refl
declared_more head kinds.Upd kinds.Ins = refl
declared_more head kinds.Upd kinds.Del = refl
declared_more head kinds.Upd kinds.Upd = refl

-- with a kind more that has a word, each kind has one
pub has_words-more : (language : Language) (head : Head) (k : Kind) → has_word language k ≡ true
    → has_words language head ≡ true → has_words language (with_kind head k) ≡ true
has_words-more language head k word speaks =
    list_all_from (λ i. not (is_declared (with_kind head k) i) || has_word language i) KINDS one
  where
    told : (same declared word : Bool) → (same ≡ true → word ≡ true) → (not declared || word) ≡ true →
        (not (same || declared) || word) ≡ true
    told true declared word here others = here refl
    told false declared word here others = others

    one : (i : Kind) → (not (is_declared (with_kind head k) i) || has_word language i) ≡ true
    one i =
        ap (λ b. not b || has_word language i) (declared_more head k i)
        ∙ told (is_same_kind i k) (is_declared head i) (has_word language i)
        (λ same. same_kind (λ x. has_word language x ≡ true → has_word language i ≡ true) i k same (λ h. h) word)
        (each_kind_true (λ x. not (is_declared head x) || has_word language x) i speaks)

-- a declared kind has a word
pub word_of_declared : (language : Language) (head : Head) (k : Kind) → has_words language head ≡ true
    → is_declared head k ≡ true → has_word language k ≡ true
word_of_declared language head k speaks declared =
    told (is_declared head k) (has_word language k) declared
    (each_kind_true (λ x. not (is_declared head x) || has_word language x) k speaks)
  where
    told : (declared word : Bool) → declared ≡ true → (not declared || word) ≡ true → word ≡ true
    told true word h e = e
    told false word h e = absurd (cc)
