-- A session goes on by one text.
use Rattle.std.proofs.Common.{◌≡◌, ℕ, ◌+◌, true, List, [], ◌∷◌, ◌++◌, length, Global, refl, sym, ap, ◌∙◌, subst, arith, length-append, append-nil, append_assoc}
use Rattle.std.specs.Prelude.{All, Option, None, Some, option_map, cond, Ok, String, string_bytes}
use Rattle.std.specs.Option.{option_to_list}
use Rattle.std.proofs.lemmas.List.Elements.{All-push}
use Rattle.std.proofs.lemmas.List.Sums.{sum_by-append}
use Rattle.cov_io.specs.declared.link.Got.{Got}
use Rattle.cov_io.specs.declared.link.Got.TheVariants.{Text, Closed}
use Rattle.cov_io.specs.Links.{LinkState, TakesText}
use Rattle.cov_io.specs.Lists.{beginning_with, ending_with}
use Rattle.cov_model.specs.declared.snapshot.Snapshot.{Snapshot}
use Rattle.cov_messages.specs.declared.reply.Reply.{Reply}
use Rattle.cov_messages.specs.Requests.{request_of}
use Rattle.cov_messages.specs.Replies.{reply_text}
use Rattle.cov_session.specs.declared.session.Desk.{Desk}
use Rattle.cov_session.specs.declared.session.Take.{Take}
use Rattle.cov_session.specs.Machine.{idle}
use Rattle.cov_session.specs.Kept.{is_proper}
use Rattle.cov_serve.specs.Seats.{Seated, Gains}
use Rattle.cov_serve.specs.Answering.{Judged, told, taken, Asked, asked_by, asked, is_taken, takes_in, reply_with, replies, take_reply, IsBlock, IsAnswered, Went, desk_after_body, judged_body}
use Rattle.cov_serve.specs.Going.{Going, Sends, desk_left}
use Rattle.cov_serve.proofs.Serves.{length_more, replied_more, starts_more}

asked_more : (d : Desk) (texts : List (List ℕ)) (text : List ℕ) → asked d (texts ++ text ∷ []) ≡ asked d texts ++ asked_by (desk_left d texts) (request_of text) ∷ []
asked_more d [] text = refl
asked_more d (t ∷ texts) text = ap (λ qs. asked_by d (request_of t) ∷ qs) (asked_more (desk_after_body d (request_of t).body) texts text)

left_more : (d : Desk) (texts : List (List ℕ)) (text : List ℕ) → desk_left d (texts ++ text ∷ []) ≡ desk_after_body (desk_left d texts) (request_of text).body
left_more d [] text = refl
left_more d (t ∷ texts) text = left_more (desk_after_body d (request_of t).body) texts text

count_more : (qs bs : List Asked) → takes_in (qs ++ bs) ≡ takes_in qs + takes_in bs
count_more qs bs = sum_by-append (λ a. cond (is_taken a.judged) 1 0) qs bs

module _ (tape : List Snapshot) (pace session : ℕ) where
  -- one request alone
  one_reply : (id : Option ℕ) (j : Judged) (reply : Reply) (take : Option Take) → IsAnswered tape pace session j reply take → reply_with tape id j (option_to_list take) (λ ts. []) ≡ reply_text id reply ∷ []
  one_reply id (told r) reply take h = ap (λ x. reply_text id x ∷ []) (sym h.0)
  one_reply id (taken flags) reply None h = absurd h
  one_reply id (taken flags) reply (Some t) h = ap (λ x. reply_text id x ∷ []) (sym h.0)

  one_count : (id : Option ℕ) (j : Judged) (reply : Reply) (take : Option Take) → IsAnswered tape pace session j reply take → takes_in (record { id = id; judged = j } ∷ []) ≡ length (option_to_list take)
  one_count id (told r) reply take h = ap (λ o. length (option_to_list o)) (sym h.1)
  one_count id (taken flags) reply None h = absurd h
  one_count id (taken flags) reply (Some t) h = refl

  one_block : (j : Judged) (reply : Reply) (take : Option Take) (takes : List Take) → IsAnswered tape pace session j reply take → All (IsBlock (length tape) pace session) takes → All (IsBlock (length tape) pace session) (takes ++ option_to_list take)
  one_block (told r) reply take takes h all = subst (λ o. All (IsBlock (length tape) pace session) (takes ++ option_to_list o)) (sym h.1) (subst (All (IsBlock (length tape) pace session)) (sym (append-nil takes)) all)
  one_block (taken flags) reply None takes h all = absurd h
  one_block (taken flags) reply (Some t) takes h all = All-push (IsBlock (length tape) pace session) takes t all h.1

  -- behind others
  with_more : (own : Option ℕ) (k : Judged) (qs : List Asked) (takes : List Take) (id : Option ℕ) (j : Judged) (reply : Reply) (take : Option Take) → length takes ≡ takes_in (record { id = own; judged = k } ∷ []) + takes_in qs
      → ((ts : List Take) → length ts ≡ takes_in qs → replies tape (qs ++ record { id = id; judged = j } ∷ []) (ts ++ option_to_list take) ≡ replies tape qs ts ++ reply_text id reply ∷ [])
      → reply_with tape own k (takes ++ option_to_list take) (replies tape (qs ++ record { id = id; judged = j } ∷ [])) ≡ reply_with tape own k takes (replies tape qs) ++ reply_text id reply ∷ []
  with_more own (told r) qs takes id j reply take n rest = ap (λ xs. reply_text own r ∷ xs) (rest takes (omega (arith, n)))
  with_more own (taken flags) qs [] id j reply take n rest = absurd (omega (arith, n))
  with_more own (taken flags) qs (t ∷ ts) id j reply take n rest = ap (λ xs. reply_text own (take_reply tape flags t) ∷ xs) (rest ts (omega (arith, n)))

  replies_more : (qs : List Asked) (takes : List Take) (id : Option ℕ) (j : Judged) (reply : Reply) (take : Option Take) → length takes ≡ takes_in qs → IsAnswered tape pace session j reply take
      → replies tape (qs ++ record { id = id; judged = j } ∷ []) (takes ++ option_to_list take) ≡ replies tape qs takes ++ reply_text id reply ∷ []
  replies_more [] [] id j reply take n h = one_reply id j reply take h
  replies_more [] (t ∷ ts) id j reply take n h = absurd (omega (arith, n))
  replies_more (a ∷ qs) takes id j reply take n h =
      with_more a.id a.judged qs takes id j reply take (n ∙ count_more (a ∷ []) qs) (λ ts m. replies_more qs ts id j reply take m h)

-- ---- what a link told

coming_more : (got : List (List ℕ)) (text : List ℕ) (before mid now : Option (List (List ℕ))) → before ≡ option_map (λ rest. got ++ rest) mid → mid ≡ beginning_with text now → before ≡ option_map (λ rest. (got ++ text ∷ []) ++ rest) now
coming_more got text before mid None e f = e ∙ ap (option_map (λ rest. got ++ rest)) f
coming_more got text before mid (Some rest) e f = e ∙ ap (option_map (λ rest. got ++ rest)) f ∙ ap Some (sym (append_assoc got (text ∷ []) rest))

sent_more : (xs : List (List ℕ)) (text : List ℕ) (before mid now : Option (List (List ℕ))) → mid ≡ option_map (λ texts. texts ++ xs) before → now ≡ ending_with text mid → now ≡ option_map (λ texts. texts ++ (xs ++ text ∷ [])) before
sent_more xs text None mid now e f = f ∙ ap (ending_with text) e
sent_more xs text (Some texts) mid now e f = f ∙ ap (ending_with text) e ∙ ap Some (append_assoc texts xs (text ∷ []))

pub gains_more : (first seat now : Seated) (takes us : List Take) (take : Option Take) → Gains first seat takes → Gains seat now (option_to_list take) → us ≡ takes ++ option_to_list take → Gains first now us
gains_more first seat now takes us take g h e =
    record {
      session = h.session ∙ g.session;
      takes = omega (arith, g.takes, h.takes, length_more takes us (option_to_list take) e);
      frames = omega (arith, g.frames, h.frames, replied_more takes us (option_to_list take) e);
      starts = omega (arith, g.starts, h.starts, starts_more takes us (option_to_list take) e);
    }

went_more : (tape : List Snapshot) (pace session : ℕ) (before link mid now : LinkState) (desk : Desk) (takes us : List Take) (take : Option Take) (text : List ℕ)
    → (w : Went tape pace session before link takes) → desk ≡ desk_left idle w.received → link.coming ≡ beginning_with text mid.coming → mid.sent ≡ link.sent
    → Sends tape pace session desk (request_of text) take mid now → us ≡ takes ++ option_to_list take → Went tape pace session before now us
went_more tape pace session before link mid now desk takes us take text w d coming sent s e =
    let request = request_of text in
    let old = asked idle w.received in
    let one = asked_by desk request in
    let more : asked idle (w.received ++ text ∷ []) ≡ old ++ one ∷ [] = asked_more idle w.received text ∙ (λ i. old ++ asked_by (sym d i) request ∷ []) in
    record {
      received = w.received ++ text ∷ [];
      coming = coming_more w.received text before.coming link.coming now.coming w.coming (coming ∙ ap (beginning_with text) (sym s.coming));
      sent = sent_more (replies tape old takes) (reply_text request.id s.reply) before.sent mid.sent now.sent (sent ∙ w.sent) s.sent
          ∙ ap (λ xs. option_map (λ texts. texts ++ xs) before.sent) (sym ((λ i. replies tape (more i) (e i)) ∙ replies_more tape pace session old takes request.id (judged_body desk request.body) s.reply take w.counted s.answered));
      counted = ap length e ∙ length-append takes (option_to_list take)
          ∙ (λ i. w.counted i + sym (one_count tape pace session request.id (judged_body desk request.body) s.reply take s.answered) i) ∙ sym (count_more old (one ∷ [])) ∙ ap takes_in (sym more);
      blocks = subst (All (IsBlock (length tape) pace session)) (sym e) (one_block tape pace session (judged_body desk request.body) s.reply take takes s.answered w.blocks);
    }

pub going_more : (tape : List Snapshot) (pace : ℕ) (first seat there : Seated) (before link mid now : LinkState) (desk next : Desk) (takes us : List Take) (take : Option Take) (text : List ℕ)
    → Going tape pace first seat before link desk takes → link.coming ≡ beginning_with text mid.coming → mid.sent ≡ link.sent → Sends tape pace seat.session desk (request_of text) take mid now
    → Gains seat there (option_to_list take) → next ≡ desk_after_body desk (request_of text).body → is_proper next ≡ true → us ≡ takes ++ option_to_list take → Going tape pace first there before now next us
unfolding went_more
going_more tape pace first seat there before link mid now desk next takes us take text g coming sent s gains d proper e =
    record {
      went = went_more tape pace first.session before link mid now desk takes us take text g.went g.left coming sent (subst (λ n. Sends tape pace n desk (request_of text) take mid now) g.gains.session s) e;
      gains = gains_more first seat there takes us take g.gains gains e;
      left = d ∙ (λ i. desk_after_body (g.left i) (request_of text).body) ∙ sym (left_more idle g.went.received text);
      proper = proper;
    }

none_came : (o : Option (List (List ℕ))) → o ≡ option_map (λ rest. [] ++ rest) o
none_came None = refl
none_came (Some xs) = refl

none_sent : (o : Option (List (List ℕ))) → o ≡ option_map (λ texts. texts ++ []) o
none_sent None = refl
none_sent (Some xs) = ap Some (sym (append-nil xs))

pub going_first : (tape : List Snapshot) (pace : ℕ) (seat : Seated) (link : LinkState) → Going tape pace seat seat link link idle []
going_first tape pace seat link =
    record {
      went = record { received = []; coming = none_came link.coming; sent = none_sent link.sent; counted = refl; blocks = (λ i d lt. absurd (omega (arith, lt))) };
      gains = record { session = refl; takes = omega arith; frames = omega arith; starts = omega arith };
      left = refl;
      proper = refl;
    }

pub going_closed : (tape : List Snapshot) (pace : ℕ) (first seat : Seated) (before link now : LinkState) (desk : Desk) (takes : List Take) → Going tape pace first seat before link desk takes → now.coming ≡ link.coming → now.sent ≡ link.sent → Going tape pace first seat before now desk takes
going_closed tape pace first seat before link now desk takes g c s =
    let w = g.went in
    record {
      went = record { received = w.received; coming = w.coming ∙ ap (option_map (λ rest. w.received ++ rest)) (sym c); sent = s ∙ w.sent; counted = w.counted; blocks = w.blocks };
      gains = g.gains;
      left = g.left;
      proper = g.proper;
    }

-- ---- what was received

pub got_closed : (before now : Option (List (List ℕ))) (got : Got) → got ≡ Closed → TakesText before now (Ok got) → now ≡ before
got_closed before now got e h = (subst (λ g. TakesText before now (Ok g)) e h).1

pub got_text : (before now : Option (List (List ℕ))) (got : Got) (text : String Global) → got ≡ Text text → TakesText before now (Ok got) → before ≡ beginning_with (string_bytes text) now
got_text before now got text e h = subst (λ g. TakesText before now (Ok g)) e h
