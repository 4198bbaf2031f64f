-- The texts of a client's script, place by place.
use Rattle.std.proofs.Common.{◌≡◌, ℕ, zero, suc, ◌+◌, ◌<◌, List, [], ◌∷◌, ◌++◌, length, replicate, refl, ap, ◌∙◌, arith}
use Rattle.std.specs.Prelude.{Option, Some, option_map, IsSome, slice_get}
use Rattle.cov_messages.specs.declared.request.Command.{Command}
use Rattle.cov_messages.specs.declared.request.Command.TheVariants as command
use Rattle.cov_messages.specs.Requests.{request_text}
use Rattle.cov_session.specs.Script.{Talk, script, words, words_from, word, awaited}

text_at : (cs : List Command) (id n k : ℕ) → k ≡ id + n → option_map (request_text k) (slice_get cs n) ≡ slice_get (words_from id cs) n
text_at [] id n k e = refl
text_at (c ∷ cs) id zero k e = let f : k ≡ id = omega arith in ap (λ j. Some (request_text j c)) f
text_at (c ∷ cs) id (suc n) k e = text_at cs (id + 1) n k (omega arith)

pub word_is : (talk : Talk) (c : Option Command) → c ≡ awaited talk → option_map (request_text (talk.answered + 1)) c ≡ word talk
word_is talk c e = ap (option_map (request_text (talk.answered + 1))) e ∙ text_at (script talk.takes) 1 talk.answered (talk.answered + 1) (omega arith)

some_within : {A : Type 0} (xs : List A) (n : ℕ) → IsSome (slice_get xs n) → n < length xs
some_within [] n some = cc
some_within (x ∷ xs) zero some = omega arith
some_within (x ∷ xs) (suc n) some = omega (arith, some_within xs n some)

length-words : (cs : List Command) (id : ℕ) → length (words_from id cs) ≡ length cs
length-words [] id = refl
length-words (c ∷ cs) id = ap suc (length-words cs (id + 1))

length-script : (takes : ℕ) → length (replicate takes command.Take ++ command.Stop ∷ command.Disable ∷ []) ≡ takes + 2
length-script zero = refl
length-script (suc takes) = omega (arith, length-script takes)

pub not_past : (talk : Talk) → IsSome (word talk) → talk.answered < talk.takes + 4
not_past talk some = omega (arith, some_within (words talk.takes) talk.answered some, length-words (script talk.takes) 1, length-script talk.takes)
