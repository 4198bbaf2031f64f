-- Lines with their ends, in parts.
use Rattle.std.proofs.Common.{◌≡◌, ℕ, List, ◌++◌, [], ◌∷◌, sym, ap, ◌∙◌}
use Rattle.std.proofs.lemmas.List.{append_assoc, append-nil}
use Rattle.std.proofs.lemmas.List.Concat.{flat_map-append}
use Rattle.lcov_text.specs.Lcov.{ended_lines}

pub ended_append : (xs ys : List (List ℕ)) → ended_lines (xs ++ ys) ≡ ended_lines xs ++ ended_lines ys
ended_append xs ys = flat_map-append (λ l. l ++ 10 ∷ []) xs ys

-- one more part
put_more : (a b : List ℕ) (p q : List (List ℕ)) → b ≡ a ++ ended_lines p → b ++ ended_lines q ≡ a ++ ended_lines (p ++ q)
put_more a b p q e = ap (λ x. x ++ ended_lines q) e ∙ append_assoc a (ended_lines p) (ended_lines q) ∙ ap (λ x. a ++ x) (sym (ended_append p q))

-- parts put one behind the other
pub parts_put : (a b c d e : List ℕ) (p q r s : List (List ℕ)) (t : List ℕ) → b ≡ a ++ ended_lines p → c ≡ b ++ ended_lines q → d ≡ c ++ ended_lines r → e ≡ d ++ ended_lines s
    → e ++ (t ++ 10 ∷ []) ≡ a ++ ended_lines (p ++ (q ++ (r ++ (s ++ t ∷ []))))
parts_put a b c d e p q r s t bp cq dr es =
    ap (λ x. e ++ x) (sym (append-nil (t ++ 10 ∷ [])))
    ∙ put_more d e s (t ∷ []) es
    ∙ put_more c d r (s ++ t ∷ []) dr
    ∙ put_more b c q (r ++ (s ++ t ∷ [])) cq
    ∙ put_more a b p (q ++ (r ++ (s ++ t ∷ []))) bp
