-- The text of one string, and texts put one behind the other.
use Rattle.std.proofs.Common.{◌≡◌, ℕ, List, [], ◌∷◌, ◌++◌, ap, ◌∙◌}
use Rattle.std.proofs.lemmas.List.{append-nil, append_assoc}
use Rattle.json.specs.Token.{Token, string}
use Rattle.json.specs.Print.{print, print_from, quoted}

one-string : (s : List ℕ) → print (string s ∷ []) ≡ quoted s
unfolding print_from
one-string s = append-nil (quoted s)

-- what a writer gives back that was handed a text and wrote one string behind it
pub string-behind : (s before given text now : List ℕ) (start tokens : List Token) → now ≡ before ++ print tokens → before ≡ given → given ≡ text
    → start ≡ [] → tokens ≡ start ++ string s ∷ [] → now ≡ text ++ quoted s
string-behind s before given text now start tokens is same handed none wrote =
    is ∙ ap (λ x. x ++ print tokens) (same ∙ handed) ∙ ap (λ x. text ++ print x) (wrote ∙ ap (λ x. x ++ string s ∷ []) none) ∙ ap (λ x. text ++ x) (one-string s)

pub four-puts : (start a b c now w x y z : List ℕ) → a ≡ start ++ w → b ≡ a ++ x → c ≡ b ++ y → now ≡ c ++ z → now ≡ start ++ (w ++ (x ++ (y ++ z)))
four-puts start a b c now w x y z first second third last =
    last ∙ ap (λ t. t ++ z) third ∙ append_assoc b y z ∙ ap (λ t. t ++ (y ++ z)) second ∙ append_assoc a x (y ++ z)
    ∙ ap (λ t. t ++ (x ++ (y ++ z))) first ∙ append_assoc start w (x ++ (y ++ z))
