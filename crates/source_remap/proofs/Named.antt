-- Paths out of bytes.
use Rattle.std.proofs.Common.{◌≡◌, ℕ, zero, suc, ◌+◌, ◌-◌, min, false, cond, List, length, map, take, drop, sym, ap, ◌∙◌, inl, inr, arith, Bor}
use Rattle.std.proofs.lemmas.List.{take-map, drop-map, drop-take, length-map}
use Rattle.std.specs.Prelude.{None, Some, IsUtf8, not, ◌&&◌, ◌==◌}
use Rattle.std.specs.Str.{is_utf8}
use Rattle.std.specs.List.{list_any}
use Rattle.std.proofs.lemmas.Bool.{cases_Bool}
use Rattle.std.proofs.lemmas.Str.{IsUtf8-from_is_utf8, is_utf8-from_IsUtf8}
use Rattle.source_remap.specs.Paths.{path_text, inner_segments}

-- bytes that are UTF-8 and have no zero byte
pub path_text-Some : (bytes : List ℕ) → IsUtf8 bytes → list_any (λ b. b == 0) bytes ≡ false → path_text bytes ≡ Some bytes
path_text-Some bytes utf8 none =
    ap (λ t. cond (t && not (list_any (λ b. b == 0) bytes)) (Some bytes) None) (is_utf8-from_IsUtf8 bytes utf8) ∙ ap (λ t. cond (not t) (Some bytes) None) none

pub path_text-None : (bytes : List ℕ) → ¬ (IsUtf8 bytes) → path_text bytes ≡ None
path_text-None bytes bad =
    elim (cases_Bool (is_utf8 bytes)) [
      | inl e ↦ absurd (bad (IsUtf8-from_is_utf8 bytes e))
      | inr e ↦ ap (λ t. cond (t && not (list_any (λ b. b == 0) bytes)) (Some bytes) None) e
    ]

-- ---- the segments of a folder

inner-cut : {A : Type 0} (xs : List A) (end low : ℕ) → low ≡ min end 1 → take (end - low) (drop low xs) ≡ drop 1 (take end xs)
inner-cut xs zero low is =
    let none : 0 - low ≡ 0 = omega arith in
    ap (λ n. take n (drop low xs)) none
inner-cut xs (suc m) low is =
    let one : low ≡ 1 = omega arith in
    let rest : suc m - 1 ≡ m = omega arith in
    let all : suc m ≡ 1 + m = omega arith in
    ap (λ n. take (suc m - n) (drop n xs)) one ∙ ap (λ n. take n (drop 1 xs)) rest ∙ sym (ap (λ n. drop 1 (take n xs)) all ∙ drop-take 1 m xs)

pub inner_segments-cut : (xs : List (Bor (List ℕ))) (end low : ℕ) → end ≡ length xs - 1 → low ≡ min end 1
    → map (λ s. s.now) (take (end - low) (drop low xs)) ≡ inner_segments (map (λ s. s.now) xs)
inner_segments-cut xs end low end_is low_is =
    let f = λ (s : Bor (List ℕ)). s.now in
    ap (map f) (inner-cut xs end low low_is)
    ∙ sym (ap (λ n. drop 1 (take (n - 1) (map f xs))) (length-map xs f) ∙ ap (λ n. drop 1 (take n (map f xs))) (sym end_is)
    ∙ ap (drop 1) (take-map f end xs) ∙ drop-map f 1 (take end xs))
