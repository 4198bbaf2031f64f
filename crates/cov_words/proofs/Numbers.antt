-- What a text is read as that is a number in bounds, or none.
use Rattle.std.proofs.Common.{◌≡◌, ℕ, ◌≤◌, ◌<◌, ◌^◌, Bool, true, false, List, refl, sym, ap, ◌∙◌, subst}
use Rattle.std.specs.Prelude.{Option, None, Some, Result, cond, option_and_then}
use Rattle.std.specs.Str.Parse.{ExplainsUnsignedError, HasUnsignedDigitsIfOk, IsNumeral, ParsesUnsigned, digits_value, without_leading_plus}
use Rattle.std.specs.declared.num.ParseIntError.{ParseIntError}
use Rattle.clap.specs.Words.{ReadsOne}
use Rattle.clap.specs.ValueTests.{is_unsigned_in}
use Rattle.clap.specs.declared.builder.value_parser.ValueParser.TheVariants.{Unsigned}
use Rattle.clap.proofs.ValueTestLemmas.{accepts-Accepts, Accepts-accepts}
use Rattle.cov_words.specs.Asked.{number_in}

abbrev IsNumber : List ℕ → Type 0
IsNumber text = IsNumeral 10 (without_leading_plus text) × (digits_value 10 (without_leading_plus text) < 2 ^ 64)

number-is : (least most : ℕ) (text : List ℕ) (n : ℕ) → IsNumber text → n ≡ digits_value 10 (without_leading_plus text) → least ≤ n → n ≤ most
    → number_in least most text ≡ Some n
number-is least most text n numeral is low high =
    let from : least ≤ digits_value 10 (without_leading_plus text) = subst (λ m. least ≤ m) is low in
    let to : digits_value 10 (without_leading_plus text) ≤ most = subst (λ m. m ≤ most) is high in
    let good = Accepts-accepts false (Unsigned least most) text (numeral.0, numeral.1, from, to) in
    ap (λ b. cond b (Some (digits_value 10 (without_leading_plus text))) None) good ∙ ap Some (sym is)

number-none : (least most : ℕ) (text : List ℕ)
    → (IsNumber text → least ≤ digits_value 10 (without_leading_plus text) → digits_value 10 (without_leading_plus text) ≤ most → ⊥)
    → number_in least most text ≡ None
number-none least most text never = by (is_unsigned_in least most text) refl
  where
    by : (b : Bool) → is_unsigned_in least most text ≡ b → number_in least most text ≡ None
    by true e = let h = accepts-Accepts false (Unsigned least most) text e in absurd (never (h.0, h.1) h.2 h.3)
    by false e = ap (λ b. cond b (Some (digits_value 10 (without_leading_plus text))) None) e

-- what `u64` reads a text as
abbrev pub Gives : List ℕ → Result ℕ ParseIntError → Type 0
Gives text r = ParsesUnsigned 64 10 text r × ExplainsUnsignedError 10 text r × HasUnsignedDigitsIfOk text r

pub number-some : (least most : ℕ) (o : Option (List ℕ)) (n : ℕ) → (o ≡ None → Some n ≡ None) → ((t : List ℕ) → o ≡ Some t → ReadsOne Gives t (Some n))
    → least ≤ n → n ≤ most → option_and_then (number_in least most) o ≡ Some n
number-some least most None n none read low high = let bad = none refl in absurd cc
number-some least most (Some t) n none read low high = let p = (read t refl).0 in number-is least most t n p.0 p.1 low high

pub number-outside : (least most : ℕ) (o : Option (List ℕ)) (n : ℕ) → ((t : List ℕ) → o ≡ Some t → ReadsOne Gives t (Some n))
    → (least ≤ n → n ≤ most → ⊥) → option_and_then (number_in least most) o ≡ None
number-outside least most None n read out = refl
number-outside least most (Some t) n read out =
    let p = (read t refl).0 in number-none least most t (λ numeral low high. out (subst (λ m. least ≤ m) (sym p.1) low) (subst (λ m. m ≤ most) (sym p.1) high))

pub number-nothing : (least most : ℕ) (o : Option (List ℕ)) → ((t : List ℕ) → o ≡ Some t → ReadsOne Gives t None)
    → option_and_then (number_in least most) o ≡ None
number-nothing least most None read = refl
number-nothing least most (Some t) read = let p = read t refl in number-none least most t (λ numeral low high. p.1.0 (numeral))
