-- A session on its way, against the whole run.
use Rattle.std.proofs.Common.{◌≡◌, ℕ, zero, suc, ◌+◌, ◌≤◌, Bool, true, false, List, [], ◌∷◌, ◌++◌, map, length, take, drop, refl, sym, ap, subst, ◌∙◌, arith, append_assoc, append-nil}
use Rattle.std.specs.Prelude.{Option, None, Some, option_map, is_none, slice_get, if◌then◌else◌, Result, Ok, Err, IsSome}
use Rattle.cov_io.specs.Lists.{beginning_with}
use Rattle.cov_model.specs.declared.snapshot.Snapshot.{Snapshot}
use Rattle.cov_messages.specs.Replies.{Meant, message_of}
use Rattle.cov_messages.specs.Requests.{request_text}
use Rattle.cov_session.specs.declared.client.Heard.{Heard}
use Rattle.cov_session.specs.declared.client.Heard.TheVariants.{Skipped, Done, Took}
use Rattle.cov_session.specs.declared.client.PeerWhy.{PeerWhy}
use Rattle.cov_session.specs.Script.{Talk, opening, words, word, awaited, heard_as, heard_of, heard_all, talk_after, talk_at_end, goes_on, run_heard}
use Rattle.cov_session.proofs.Scripted.{word_is}
use Rattle.cov_attach.specs.declared.session.Session.{Session}
use Rattle.cov_attach.specs.Runs.{refused_from, snapshots}
use Rattle.cov_attach.specs.Sessions.{ahead_of}
use Rattle.cov_attach.specs.Steps.{with_word, with_told, after}

-- ---- lists

plus_one : (n : ℕ) → n + 1 ≡ suc n
plus_one n = omega arith

drop_suc : {A : Type 0} (xs : List A) (n : ℕ) (x : A) (rest : List A) → drop n xs ≡ x ∷ rest → drop (suc n) xs ≡ rest
drop_suc [] zero x rest e = cc
drop_suc [] (suc n) x rest e = cc
drop_suc (y ∷ xs) zero x rest e = cc
drop_suc (y ∷ xs) (suc n) x rest e = drop_suc xs n x rest e

pub drop_next : {A : Type 0} (xs : List A) (n : ℕ) (x : A) (rest : List A) → drop n xs ≡ x ∷ rest → drop (n + 1) xs ≡ rest
drop_next xs n x rest e = ap (λ k. drop k xs) (plus_one n) ∙ drop_suc xs n x rest e

take_suc : {A : Type 0} (xs : List A) (n : ℕ) (x : A) → slice_get xs n ≡ Some x → take n xs ++ x ∷ [] ≡ take (suc n) xs
take_suc [] zero x e = cc
take_suc [] (suc n) x e = cc
take_suc (y ∷ xs) zero x e = cc
take_suc (y ∷ xs) (suc n) x e = ap (λ zs. y ∷ zs) (take_suc xs n x e)

take_past : {A : Type 0} (xs : List A) (n : ℕ) → slice_get xs n ≡ None → take n xs ≡ take (suc n) xs
take_past [] zero e = refl
take_past [] (suc n) e = refl
take_past (y ∷ xs) zero e = cc
take_past (y ∷ xs) (suc n) e = ap (λ zs. y ∷ zs) (take_past xs n e)

pub take_within : {A : Type 0} (xs : List A) (n m : ℕ) → n ≤ m → take n (take m xs) ≡ take n xs
take_within xs zero m le = refl
take_within [] (suc n) zero le = refl
take_within (x ∷ xs) (suc n) zero le = grind (arith, le)
take_within [] (suc n) (suc m) le = refl
take_within (x ∷ xs) (suc n) (suc m) le = ap (λ zs. x ∷ zs) (take_within xs n m (omega (arith, le)))

pub take_whole : {A : Type 0} (xs : List A) → take (length xs) xs ≡ xs
take_whole [] = refl
take_whole (x ∷ xs) = ap (λ zs. x ∷ zs) (take_whole xs)

-- ---- what is told

-- one more text is taken
pub taken_one : (start mid now : Option (List (List ℕ))) (n : ℕ) (text : List ℕ) → mid ≡ option_map (drop n) start → mid ≡ beginning_with text now → now ≡ option_map (drop (n + 1)) start
taken_one None mid None n text e f = refl
taken_one None mid (Some rest) n text e f = cc
taken_one (Some texts) mid None n text e f = cc
taken_one (Some texts) mid (Some rest) n text e f = ap Some (sym (drop_next texts n text rest cc))

pub all_to_come : (start : Option (List (List ℕ))) → start ≡ option_map (drop 0) start
all_to_come None = refl
all_to_come (Some xs) = refl

pub none_sent : (start : Option (List (List ℕ))) (xs : List (List ℕ)) → start ≡ ahead_of (take 0 xs) start
none_sent None xs = refl
none_sent (Some ys) xs = ap Some (sym (append-nil ys))

pub put_word : (talk : Talk) (start : Option (List (List ℕ))) (next : Option (List ℕ)) → word talk ≡ next
    → with_word next (ahead_of (take talk.answered (words talk.takes)) start) ≡ ahead_of (take (talk.answered + 1) (words talk.takes)) start
put_word talk start next e = put_suc talk start next e ∙ ap (λ k. ahead_of (take k (words talk.takes)) start) (sym (plus_one talk.answered))
  where
    put_suc : (talk : Talk) (start : Option (List (List ℕ))) (next : Option (List ℕ)) → word talk ≡ next
        → with_word next (ahead_of (take talk.answered (words talk.takes)) start) ≡ ahead_of (take (suc talk.answered) (words talk.takes)) start
    put_suc talk None None e = refl
    put_suc talk None (Some text) e = refl
    put_suc talk (Some xs) None e = ap (λ ys. Some (xs ++ ys)) (take_past (words talk.takes) talk.answered e)
    put_suc talk (Some xs) (Some text) e =
        ap Some (append_assoc xs (take talk.answered (words talk.takes)) (text ∷ []) ∙ ap (λ ys. xs ++ ys) (take_suc (words talk.takes) talk.answered text e))

-- ---- whether a reply is awaited

some_of : {A B : Type 0} (f : A → B) (o : Option A) → IsSome (option_map f o) → is_none o ≡ false
some_of f None some = cc
some_of f (Some x) some = refl

none_of : {A B : Type 0} (f : A → B) (o : Option A) → option_map f o ≡ None → is_none o ≡ true
none_of f None e = refl
none_of f (Some x) e = cc

pub awaits : (talk : Talk) → IsSome (word talk) → is_none (awaited talk) ≡ false
awaits talk some = some_of (request_text (talk.answered + 1)) (awaited talk) (subst IsSome (sym (word_is talk (awaited talk) refl)) some)

pub finished : (talk : Talk) → word talk ≡ None → is_none (awaited talk) ≡ true
finished talk e = none_of (request_text (talk.answered + 1)) (awaited talk) (word_is talk (awaited talk) refl ∙ e)

-- ---- a run, a text at a time

heard_on : (talk : Talk) (m : Meant) (ms : List Meant) (h : Heard) → is_none (awaited talk) ≡ false → heard_as talk m ≡ Ok h
    → heard_all talk (m ∷ ms) ≡ Ok h ∷ heard_all (talk_after talk h) ms
heard_on talk m ms h p e = λ i. if p i then [] else (e i ∷ goes_on talk (e i) [] (λ next. heard_all next ms))

ends_on : (talk : Talk) (m : Meant) (ms : List Meant) (h : Heard) → is_none (awaited talk) ≡ false → heard_as talk m ≡ Ok h
    → talk_at_end talk (m ∷ ms) ≡ talk_at_end (talk_after talk h) ms
ends_on talk m ms h p e = λ i. if p i then talk else goes_on talk (e i) talk (λ next. talk_at_end next ms)

pub heard_last : (talk : Talk) (m : Meant) (ms : List Meant) (why : PeerWhy) → is_none (awaited talk) ≡ false → heard_as talk m ≡ Err why
    → heard_all talk (m ∷ ms) ≡ Err why ∷ []
heard_last talk m ms why p e = λ i. if p i then [] else (e i ∷ goes_on talk (e i) [] (λ next. heard_all next ms))

pub ends_last : (talk : Talk) (m : Meant) (ms : List Meant) (why : PeerWhy) → is_none (awaited talk) ≡ false → heard_as talk m ≡ Err why
    → talk_at_end talk (m ∷ ms) ≡ talk
ends_last talk m ms why p e = λ i. if p i then talk else goes_on talk (e i) talk (λ next. talk_at_end next ms)

pub heard_none : (talk : Talk) (ms : List Meant) → is_none (awaited talk) ≡ true → heard_all talk ms ≡ []
heard_none talk [] p = refl
heard_none talk (m ∷ ms) p = λ i. if p i then [] else (heard_as talk m ∷ goes_on talk (heard_as talk m) [] (λ next. heard_all next ms))

pub ends_there : (talk : Talk) (ms : List Meant) → is_none (awaited talk) ≡ true → talk_at_end talk ms ≡ talk
ends_there talk [] p = refl
ends_there talk (m ∷ ms) p = λ i. if p i then talk else goes_on talk (heard_as talk m) talk (λ next. talk_at_end next ms)

pub heard_one : (talk : Talk) (m : Meant) (ms : List Meant) → is_none (awaited talk) ≡ false → 1 ≤ length (heard_all talk (m ∷ ms))
heard_one talk m ms p =
    subst (λ b. 1 ≤ length (if b then [] else (heard_as talk m ∷ goes_on talk (heard_as talk m) [] (λ next. heard_all next ms)))) (sym p) (omega arith)

after_grows : (talk : Talk) (h : Heard) → talk.answered ≤ (talk_after talk h).answered
after_grows talk Skipped = omega arith
after_grows talk Done = omega arith
after_grows talk (Took snapshot) = omega arith

grows_if : (talk : Talk) (b : Bool) (r : Result Heard PeerWhy) (ms : List Meant) → ((next : Talk) → next.answered ≤ (talk_at_end next ms).answered)
    → talk.answered ≤ (if b then talk else goes_on talk r talk (λ next. talk_at_end next ms)).answered
grows_if talk true r ms rest = omega arith
grows_if talk false (Err why) ms rest = omega arith
grows_if talk false (Ok h) ms rest = omega (arith, after_grows talk h, rest (talk_after talk h))

pub grows : (talk : Talk) (ms : List Meant) → talk.answered ≤ (talk_at_end talk ms).answered
grows talk [] = omega arith
grows talk (m ∷ ms) = grows_if talk (is_none (awaited talk)) (heard_as talk m) ms (λ next. grows next ms)

-- ---- the whole run, from where a session stands

pub record GoesOn (takes : ℕ) (texts : List (List ℕ)) (s : Session) : Type 0 where
  pub refused : refused_from 0 (run_heard takes texts) ≡ refused_from s.received (heard_all s.client (map message_of (drop s.received texts)))
  pub taken : snapshots (run_heard takes texts) ≡ s.taken ++ snapshots (heard_all s.client (map message_of (drop s.received texts)))
  pub ended : talk_at_end (opening takes) (map message_of texts) ≡ talk_at_end s.client (map message_of (drop s.received texts))
  pub count : length (run_heard takes texts) ≡ s.received + length (heard_all s.client (map message_of (drop s.received texts)))

told_one : (taken : List Snapshot) (h : Heard) (rest : List (Result Heard PeerWhy)) → taken ++ snapshots (Ok h ∷ rest) ≡ with_told taken h ++ snapshots rest
told_one taken Skipped rest = refl
told_one taken Done rest = refl
told_one taken (Took snapshot) rest = sym (append_assoc taken (snapshot ∷ []) (snapshots rest))

pub goes_heard : (takes : ℕ) (texts : List (List ℕ)) (s : Session) (text : List ℕ) (h : Heard) → is_none (awaited s.client) ≡ false
    → drop s.received texts ≡ text ∷ drop (s.received + 1) texts → heard_of s.client text ≡ Ok h → GoesOn takes texts s → GoesOn takes texts (after s h)
goes_heard takes texts s text h p d e g =
    let rest = map message_of (drop (s.received + 1) texts) in
    let heard : heard_all s.client (map message_of (drop s.received texts)) ≡ Ok h ∷ heard_all (talk_after s.client h) rest =
    ap (λ xs. heard_all s.client (map message_of xs)) d ∙ heard_on s.client (message_of text) rest h p e in
    record {
      refused = g.refused ∙ ap (refused_from s.received) heard;
      taken = g.taken ∙ (ap (λ xs. s.taken ++ snapshots xs) heard ∙ told_one s.taken h (heard_all (talk_after s.client h) rest));
      ended = g.ended ∙ (ap (λ xs. talk_at_end s.client (map message_of xs)) d ∙ ends_on s.client (message_of text) rest h p e);
      count = g.count ∙ (ap (λ xs. s.received + length xs) heard ∙ omega arith);
    }
