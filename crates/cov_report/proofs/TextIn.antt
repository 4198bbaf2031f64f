-- The text that bytes are.
use Rattle.std.proofs.Common.{◌≡◌, ◌≤◌, ◌<◌, ℕ, Bool, true, false, List, length, take, refl, sym, ap, ◌∙◌, inl, inr, arith}
use Rattle.std.specs.Prelude.{cond, nat_lt, Option, None, Some, option_map, Result, Ok, Err}
use Rattle.std.specs.Str.{is_utf8, IsUtf8}
use Rattle.std.proofs.lemmas.Bool.{lt-ltb, cases_lt}
use Rattle.std.proofs.lemmas.Str.{is_utf8-from_IsUtf8, IsUtf8-from_is_utf8}
use Rattle.std.proofs.lemmas.List.{length-take-le, take_all}
use Rattle.cov_text.specs.Listing.{max_text}
use Rattle.json_shapes.specs.Shapes.{◌>>=◌, or_fault}
use Rattle.cov_report.specs.declared.answer.SkipCause.{SkipCause}
use Rattle.cov_report.specs.declared.answer.SkipCause.TheVariants.{NotFile, Absent, TooLong, NotUtf8, BadMap}
use Rattle.cov_report.specs.Wanted.{short_text, utf8_text, text_in}

pub good-text : (bytes text : List ℕ) → nat_lt max_text (length bytes) ≡ false → is_utf8 bytes ≡ true → text ≡ bytes → Ok text ≡ text_in bytes
good-text bytes text short utf8 same = ap Ok same ∙ sym (ap (λ b. cond b (Err TooLong) (Ok bytes) >>= utf8_text) short ∙ ap (λ b. cond b (Ok bytes) (Err NotUtf8)) utf8)

pub bad-text : (bytes : List ℕ) → nat_lt max_text (length bytes) ≡ false → is_utf8 bytes ≡ false → Err NotUtf8 ≡ text_in bytes
bad-text bytes short utf8 = sym (ap (λ b. cond b (Err TooLong) (Ok bytes) >>= utf8_text) short ∙ ap (λ b. cond b (Ok bytes) (Err NotUtf8)) utf8)

-- One byte past the limit is enough to see that a text is too long.
text_in-cut : (bytes : List ℕ) → text_in (take 134217729 bytes) ≡ text_in bytes
text_in-cut bytes =
    elim (cases_lt max_text (length bytes)) [
      | inl longer ↦
          let cut : length (take 134217729 bytes) ≡ 134217729 = length-take-le 134217729 bytes (omega arith) in
          let still : max_text < length (take 134217729 bytes) = omega arith in
          ap (λ b. cond b (Err TooLong) (Ok (take 134217729 bytes)) >>= utf8_text) (lt-ltb max_text (length (take 134217729 bytes)) still)
          ∙ sym (ap (λ b. cond b (Err TooLong) (Ok bytes) >>= utf8_text) (lt-ltb max_text (length bytes) longer))
      | inr short ↦ ap text_in (take_all 134217729 bytes (omega arith))
    ]

pub found-text : (found : Option (List ℕ)) (bytes : List ℕ) → option_map (take 134217729) found ≡ Some bytes → text_in bytes ≡ (or_fault Absent found >>= text_in)
found-text None bytes e = absurd cc
found-text (Some text) bytes e = let same : bytes ≡ take 134217729 text = cc in ap text_in same ∙ text_in-cut text
