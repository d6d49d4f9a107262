-- The blocks of each template make a function within the limits: by a test of all heads, which computes.
use Rattle.std.proofs.Common.{◌≡◌, Bool, true, false, ◌&&◌, ◌||◌, not, refl, ap, ◌∙◌, inl, inr}
use Rattle.std.proofs.lemmas.Bool.{and_parts}
use Rattle.ot_model.specs.declared.op.Mode.{Mode}
use Rattle.ot_model.specs.declared.op.Mode.TheVariants.{Plain, Tomb}
use Rattle.fn_rules.specs.declared.function.Head.{Head}
use Rattle.fn_rules.specs.Building.{is_buildable}
use Rattle.ot_heads.specs.Templates.{has_kind, template_blocks}

-- a test passes at yes and at no
abbrev at_both : (Bool → Bool) → Bool
at_both test = test true && test false

by_both : (test : Bool → Bool) → at_both test ≡ true → (b : Bool) → test b ≡ true
by_both test passed true = (and_parts (test true) (test false) passed).0
by_both test passed false = (and_parts (test true) (test false) passed).1

-- it passes with and without tombstones
abbrev at_modes : (Mode → Bool) → Bool
at_modes test = test Plain && test Tomb

by_modes : (test : Mode → Bool) → at_modes test ≡ true → (m : Mode) → test m ≡ true
by_modes test passed Plain = (and_parts (test Plain) (test Tomb) passed).0
by_modes test passed Tomb = (and_parts (test Plain) (test Tomb) passed).1

-- a head of these parts
abbrev head_of : Mode → Bool → Bool → Bool → Bool → Bool → Head
head_of mode ins del upd sites chars =
    record { mode = mode; ins = ins; del = del; upd = upd; sites_differ = sites; chars_differ = chars }

-- the test of a head: where it declares some kind, its blocks make a function
abbrev is_fine : Head → Bool
is_fine head = not (has_kind head) || is_buildable head (template_blocks head)

-- it passes whatever is assumed of characters, then whatever of sites, and with and without each kind
abbrev chars_fine : Mode → Bool → Bool → Bool → Bool → Bool
chars_fine mode ins del upd sites = at_both (λ chars. is_fine (head_of mode ins del upd sites chars))

abbrev sites_fine : Mode → Bool → Bool → Bool → Bool
sites_fine mode ins del upd = at_both (λ sites. chars_fine mode ins del upd sites)

abbrev updates_fine : Mode → Bool → Bool → Bool
updates_fine mode ins del = at_both (λ upd. sites_fine mode ins del upd)

abbrev deletions_fine : Mode → Bool → Bool
deletions_fine mode ins = at_both (λ del. updates_fine mode ins del)

abbrev insertions_fine : Mode → Bool
insertions_fine mode = at_both (λ ins. deletions_fine mode ins)

all_are_fine : at_modes insertions_fine ≡ true
all_are_fine = refl

one_is_fine : (mode : Mode) (ins del upd sites chars : Bool) → is_fine (head_of mode ins del upd sites chars) ≡ true
one_is_fine mode ins del upd sites chars =
    let by_mode = by_modes insertions_fine all_are_fine mode in
    let by_ins = by_both (λ i. deletions_fine mode i) by_mode ins in
    let by_del = by_both (λ d. updates_fine mode ins d) by_ins del in
    let by_upd = by_both (λ u. sites_fine mode ins del u) by_del upd in
    let by_sites = by_both (λ s. chars_fine mode ins del upd s) by_upd sites in
    by_both (λ c. is_fine (head_of mode ins del upd sites c)) by_sites chars

-- what a test says of a head that declares some kind
said : (kind fine : Bool) → (not kind || fine) ≡ true → kind ≡ true → fine ≡ true
said true fine passed declares = passed
said false fine passed declares = absurd (cc)

pub templates_are_buildable : (head : Head) → has_kind head ≡ true → is_buildable head (template_blocks head) ≡ true
templates_are_buildable head declares =
    said (has_kind head) (is_buildable head (template_blocks head))
    (one_is_fine head.mode head.ins head.del head.upd head.sites_differ head.chars_differ) declares
