-- What is found at the front of some bytes, on worked rows.
use Rattle.std.proofs.Common.{◌≡◌, [], ◌∷◌, refl}
use Rattle.std.specs.Prelude.{codes, pos, negsuc}
use Rattle.proof_trees.specs.declared.token.ProofTok.TheVariants as token
use Rattle.proof_text.specs.declared.unread.Unread.TheVariants.{Misspelt, Cut}
use Rattle.proof_text.specs.Fronts.{Found, Missing, items_front}
use Rattle.proof_text.specs.Tokens.{token_front}
use Rattle.proof_text.specs.Lines.{header_front}

citation : token_front (codes "c5;.") ≡ Found (token.Cite 5) (codes ".")
citation = refl

leading_zero : token_front (codes "c05;.") ≡ Missing Misspelt
leading_zero = refl

cycle_of_three : token_front (codes "x4,14,12;x") ≡ Found (token.Cycle (4 ∷ 14 ∷ 12 ∷ [])) (codes "x")
unfolding items_front
cycle_of_three = refl

cycle_without_end : token_front (codes "x4,14") ≡ Missing Cut
unfolding items_front
cycle_without_end = refl

cycle_of_thirteen : token_front (codes "x1,2,3,4,5,6,7,8,9,10,11,12,") ≡ Missing Misspelt
unfolding items_front
cycle_of_thirteen = refl

lemma_without_literals : token_front (codes "l;?") ≡ Found (token.Lemma []) (codes "?")
lemma_without_literals = refl

lemma_of_two :
    token_front (codes "l3,1,-1/0,6,0;")
    ≡ Found (token.Lemma (record { x = 3; y = 1; k = negsuc 0 } ∷ record { x = 0; y = 6; k = pos 0 } ∷ [])) []
unfolding items_front
lemma_of_two = refl

minus_zero : token_front (codes "l3,1,-0") ≡ Missing Misspelt
unfolding items_front
minus_zero = refl

minus_alone : token_front (codes "l3,1,-") ≡ Missing Cut
unfolding items_front
minus_alone = refl

header_of_pairs : header_front (codes "otproof 1 tp1") ≡ Missing Cut
header_of_pairs = refl

header_of_triples : header_front (codes "otproof 1 tp2") ≡ Missing Cut
header_of_triples = refl

header_of_certificates : header_front (codes "otcert 1 tp2") ≡ Missing Misspelt
header_of_certificates = refl
