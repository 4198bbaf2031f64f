-- Where a session stands between two steps, and how it ends.
use Rattle.std.proofs.Common.{◌≡◌, ℕ, ◌+◌, ◌<◌, ◌≤◌, ◌^◌, ◌⊎◌, inl, inr, min, Bool, true, false, List, [], ◌∷◌, ◌++◌, map, length, take, drop, refl, sym, ap, subst, ◌∙◌, arith, append-nil}
use Rattle.std.specs.Prelude.{Option, None, Some, option_map, is_none, is_some, ◌==◌, if◌then◌else◌, Result, Ok, Err, IsSome, nat_lt}
use Rattle.std.proofs.lemmas.Bool.Decides.{nat_tests}
use Rattle.std.proofs.lemmas.List.{take_min}
use Rattle.cov_io.specs.Told.{WhereTold}
use Rattle.cov_io.specs.Lists.{beginning_with}
use Rattle.cov_io.specs.Links.{LinkState}
use Rattle.cov_model.specs.declared.snapshot.Snapshot.{Snapshot}
use Rattle.cov_messages.specs.Replies.{Meant, event, answer, refusal, other, message_of}
use Rattle.cov_session.specs.declared.client.Heard.{Heard}
use Rattle.cov_session.specs.declared.client.Heard.TheVariants.{Skipped, Done, Took}
use Rattle.cov_session.specs.declared.client.PeerWhy.{PeerWhy}
use Rattle.cov_session.specs.declared.client.PeerWhy.TheVariants.{OtherId, ErrorReply, Chatter}
use Rattle.cov_model.specs.declared.snapshot.ShapeFault.{ShapeFault}
use Rattle.cov_model.specs.Reading.{snapshot_of}
use Rattle.cov_session.specs.Script.{Talk, opening, words, word, awaited, heard_as, heard_of, heard_all, talk_after, talk_at_end, awaited_id, is_take, run_heard}
use Rattle.cov_session.specs.Script as script
use Rattle.cov_attach.specs.declared.fault.AttachFault.{AttachFault}
use Rattle.cov_attach.specs.declared.fault.AttachFault.TheVariants.{Failed, Closed, Peer, NoMemory}
use Rattle.cov_attach.specs.declared.session.Session.{Session}
use Rattle.cov_attach.specs.Runs.{refused_from, snapshots, is_finished, end_of}
use Rattle.cov_attach.specs.Sessions.{IsSession, PutsIn, ahead_of}
use Rattle.cov_attach.specs.Steps.{IsCounted, Asks, HearsNext, with_word, is_reply, after}
use Rattle.cov_attach.proofs.Way.{GoesOn, awaits, finished, drop_next, taken_one, all_to_come, none_sent, put_word, take_within, take_whole, heard_last, heard_none, heard_one, ends_last, ends_there, grows, goes_heard}

-- a session that has sent so many requests over a link, since it was at its start
pub record IsOnWay (takes asked : ℕ) (start now : LinkState) (s : Session) : Type 0 where
  pub of : s.client.takes ≡ takes
  pub coming : now.coming ≡ option_map (drop s.received) start.coming
  pub sent : now.sent ≡ ahead_of (take asked (words takes)) start.sent
  pub closed : now.closed ≡ start.closed
  pub run : WhereTold start.coming (λ texts. GoesOn takes texts s)
  pub counted : IsCounted s

-- ---- steps

pub begins : (takes : ℕ) (start : LinkState) (s : Session) → takes < 2 ^ 32 → s ≡ record { client = opening takes; taken = []; received = 0 }
    → IsOnWay takes s.client.answered start start s
begins takes start s small is = subst (λ (t : Session). IsOnWay takes t.client.answered start start t) (sym is) (record {
  of = refl;
  coming = all_to_come start.coming;
  sent = none_sent start.sent (words takes);
  closed = refl;
  run = λ texts told. record { refused = refl; taken = refl; ended = refl; count = sym (zero_plus _) };
  counted = record { takes = small; received = omega arith; events = omega arith };
})
  where
    zero_plus : (n : ℕ) → 0 + n ≡ n
    zero_plus n = omega arith

-- the request that was asked joins those that were sent
put_next : (takes : ℕ) (start now later : Option (List (List ℕ))) (s : Session) → s.client.takes ≡ takes
    → now ≡ ahead_of (take s.client.answered (words takes)) start → later ≡ with_word (word s.client) now
    → later ≡ ahead_of (take (s.client.answered + 1) (words takes)) start
put_next takes start now later s of sent asked =
    asked
    ∙ (ap (with_word (word s.client)) (sent ∙ ap (λ n. ahead_of (take s.client.answered (words n)) start) (sym of))
    ∙ (put_word s.client start (word s.client) refl ∙ ap (λ n. ahead_of (take (s.client.answered + 1) (words n)) start) of))

pub asks : (takes : ℕ) (start now later : LinkState) (s : Session) (more : Bool) → IsOnWay takes s.client.answered start now s
    → Asks s now later (Ok more) → IsOnWay takes (s.client.answered + 1) start later s
asks takes start now later s more way asked = record {
  of = way.of;
  coming = asked.coming ∙ way.coming;
  sent = put_next takes start.sent now.sent later.sent s way.of way.sent asked.sent;
  closed = asked.closed ∙ way.closed;
  run = way.run;
  counted = way.counted;
}

-- ---- bounds

event_within : (n : ℕ) (b : Bool) → nat_lt n 999 ≡ b → (if b then Ok Skipped else Err Chatter) ≡ Ok Skipped → n + 1 ≤ 999
event_within n true t e = grind (arith, nat_tests)
event_within n false t e = cc

answer_replies : (n : ℕ) (b c : Bool) (r : Result Snapshot ShapeFault) (why : PeerWhy)
    → (if b then (if c then script.taken r else Ok Done) else Err why) ≡ Ok Skipped → n + 1 ≤ 999
answer_replies n true true (Ok snapshot) why e = cc
answer_replies n true true (Err fault) why e = cc
answer_replies n true false r why e = cc
answer_replies n false c r why e = cc

refusal_refuses : (n : ℕ) (b : Bool) (why also : PeerWhy) → (if b then Err why else Err also) ≡ Ok Skipped → n + 1 ≤ 999
refusal_refuses n true why also e = cc
refusal_refuses n false why also e = cc

skips_few : (talk : Talk) (m : Meant) → heard_as talk m ≡ Ok Skipped → talk.events + 1 ≤ 999
skips_few talk event e = event_within talk.events (nat_lt talk.events 999) refl e
skips_few talk (answer id body) e = answer_replies talk.events (id == awaited_id talk) (is_take (awaited talk)) (snapshot_of body) (OtherId id) e
skips_few talk (refusal id code) e = refusal_refuses talk.events (id == awaited_id talk) (ErrorReply code) (OtherId id) e
skips_few talk other e = cc

counted_after : (s : Session) (m : Meant) (h : Heard) → heard_as s.client m ≡ Ok h → IsCounted s → IsCounted (after s h)
counted_after s m Skipped e c = record { takes = c.takes; received = omega (arith, c.received); events = skips_few s.client m e }
counted_after s m Done e c = record { takes = c.takes; received = omega (arith, c.received, c.events); events = omega arith }
counted_after s m (Took snapshot) e c = record { takes = c.takes; received = omega (arith, c.received, c.events); events = omega arith }

same_takes : (talk : Talk) (h : Heard) → (talk_after talk h).takes ≡ talk.takes
same_takes talk Skipped = refl
same_takes talk Done = refl
same_takes talk (Took snapshot) = refl

-- ---- a text is heard

-- what comes next of told texts
next_of : (start mid now : Option (List (List ℕ))) (texts : List (List ℕ)) (n : ℕ) (text : List ℕ) → start ≡ Some texts
    → mid ≡ option_map (drop n) start → mid ≡ beginning_with text now → drop n texts ≡ text ∷ drop (n + 1) texts
next_of start mid None texts n text told e f = cc
next_of start mid (Some rest) texts n text told e f =
    let d : drop n texts ≡ text ∷ rest = some_is _ _ (sym (e ∙ ap (option_map (drop n)) told) ∙ f) in
    d ∙ ap (λ xs. text ∷ xs) (sym (drop_next texts n text rest d))
  where
    some_is : (xs ys : List (List ℕ)) → Some xs ≡ Some ys → xs ≡ ys
    some_is xs ys e = cc

pub hears : (takes asked : ℕ) (start now later : LinkState) (s t : Session) (reply : Bool) → IsOnWay takes asked start now s
    → IsSome (word s.client) → HearsNext s t now later (Ok reply) → IsOnWay takes asked start later t
hears takes asked start now later s t reply way some next =
    let one = next.coming in
    subst (IsOnWay takes asked start later) (sym one.state) (record {
      of = same_takes s.client one.heard ∙ way.of;
      coming = taken_one start.coming now.coming later.coming s.received one.text way.coming one.received;
      sent = next.sent ∙ way.sent;
      closed = next.closed ∙ way.closed;
      run = λ texts told.
          goes_heard takes texts s one.text one.heard (awaits s.client some)
          (next_of start.coming now.coming later.coming texts s.received one.text told way.coming one.received) one.heard_is (way.run texts told);
      counted = counted_after s (message_of one.text) one.heard one.heard_is way.counted;
    })

-- a reply is one answer more, and an event none
reply_after : (talk : Talk) (h : Heard) → is_reply h ≡ true → talk.answered + 1 ≡ (talk_after talk h).answered
reply_after talk Skipped e = cc
reply_after talk Done e = refl
reply_after talk (Took snapshot) e = refl

event_after : (talk : Talk) (h : Heard) → is_reply h ≡ false → (talk.answered ≡ (talk_after talk h).answered) × (word talk ≡ word (talk_after talk h))
event_after talk Skipped e = (refl, refl)
event_after talk Done e = cc
event_after talk (Took snapshot) e = cc

pub hears_reply : (takes : ℕ) (start now later : LinkState) (s t : Session) (reply : Bool) → IsOnWay takes (s.client.answered + 1) start now s
    → IsSome (word s.client) → HearsNext s t now later (Ok reply) → reply ≡ true → IsOnWay takes t.client.answered start later t
hears_reply takes start now later s t reply way some next e =
    let one = next.coming in
    subst (λ n. IsOnWay takes n start later t)
    (reply_after s.client one.heard (sym one.replied ∙ e) ∙ ap (λ (x : Session). x.client.answered) (sym one.state))
    (hears takes (s.client.answered + 1) start now later s t reply way some next)

pub hears_event : (takes : ℕ) (start now later : LinkState) (s t : Session) (reply : Bool) → IsOnWay takes (s.client.answered + 1) start now s
    → IsSome (word s.client) → HearsNext s t now later (Ok reply) → reply ≡ false
    → IsOnWay takes (t.client.answered + 1) start later t × (word s.client ≡ word t.client)
hears_event takes start now later s t reply way some next e =
    let one = next.coming in
    let same = event_after s.client one.heard (sym one.replied ∙ e) in (
      subst (λ n. IsOnWay takes (n + 1) start later t) (same.0 ∙ ap (λ (x : Session). x.client.answered) (sym one.state))
          (hears takes (s.client.answered + 1) start now later s t reply way some next),
      same.1 ∙ ap (λ (x : Session). word x.client) (sym one.state),
    )

-- ---- the parts of a run that are done at an end

-- what was sent of a run that answers at least so many requests
sent_some : (all : List (List ℕ)) (asked last : ℕ) (before now : Option (List (List ℕ))) → asked ≤ last + 1 → now ≡ ahead_of (take asked all) before
    → (done : ℕ) × (done ≤ length (take (last + 1) all)) × (now ≡ ahead_of (take done (take (last + 1) all)) before)
sent_some all asked last before now le e = (
  min asked (length (take (last + 1) all)),
  omega arith,
  e ∙ ap (λ xs. ahead_of xs before) (sym (take_min asked (take (last + 1) all) ∙ take_within all asked (last + 1) le)),
)

sent_all : (all : List (List ℕ)) (asked : ℕ) (before now : Option (List (List ℕ))) → now ≡ ahead_of (take asked all) before
    → (done : ℕ) × (done ≡ length (take asked all)) × (now ≡ ahead_of (take done (take asked all)) before)
sent_all all asked before now e =
    (length (take asked all), refl, e ∙ ap (λ xs. ahead_of xs before) (sym (take_whole (take asked all))))

-- ---- ends

-- a session between two steps
pub record IsStanding (takes : ℕ) (start now : LinkState) (first later : ℕ) (s : Session) (waits : Bool) : Type 0 where
  pub way : IsOnWay takes (s.client.answered + 1) start now s
  pub waits_is : waits ≡ is_some (word s.client)
  pub faults : later ≡ first

pub none_when : {A : Type 0} (o : Option A) (b : Bool) → b ≡ is_some o → b ≡ false → o ≡ None
none_when None b e f = refl
none_when (Some x) b e f = cc

-- where the script is done
pub ends_done : (takes : ℕ) (start now : LinkState) (s : Session) → IsOnWay takes (s.client.answered + 1) start now s → word s.client ≡ None
    → IsSession takes start now (Ok s.taken)
ends_done takes start now s way done = record {
  answer = λ texts told.
      let g = way.run texts told in
      let none = heard_none s.client (map message_of (drop s.received texts)) is_done in
      λ i. end_of ((g.refused ∙ ap (refused_from s.received) none) i)
      ((ap (λ (t : Talk). is_none (awaited t)) (ended texts g) ∙ is_done) i)
      ((g.taken ∙ (ap (λ hs. s.taken ++ snapshots hs) none ∙ append-nil s.taken)) i);
  received = λ texts told.
      let g = way.run texts told in (
        s.received,
        sym (g.count ∙ (ap (λ hs. s.received + length hs) (heard_none s.client (map message_of (drop s.received texts)) is_done) ∙ omega arith)),
        way.coming ∙ ap (option_map (drop s.received)) told,
      );
  sent = λ texts told.
      subst (λ (t : Talk). PutsIn (Ok s.taken) (take (t.answered + 1) (words takes)) start.sent now.sent) (sym (ended texts (way.run texts told)))
      (sent_all (words takes) (s.client.answered + 1) start.sent now.sent way.sent);
  closed = way.closed;
}
  where
    is_done : is_none (awaited s.client) ≡ true
    is_done = finished s.client done

    ended : (texts : List (List ℕ)) → GoesOn takes texts s → talk_at_end (opening takes) (map message_of texts) ≡ s.client
    ended texts g = g.ended ∙ ends_there s.client (map message_of (drop s.received texts)) is_done

-- where the link fails or memory runs out
pub ends_cut : (takes received asked : ℕ) (start now : LinkState) (fault : AttachFault) → (fault ≡ Failed) ⊎ (fault ≡ NoMemory)
    → now.coming ≡ option_map (drop received) start.coming → now.sent ≡ ahead_of (take asked (words takes)) start.sent → now.closed ≡ start.closed
    → ((texts : List (List ℕ)) → start.coming ≡ Some texts
    → (received ≤ length (run_heard takes texts)) × (asked ≤ (talk_at_end (opening takes) (map message_of texts)).answered + 1))
    → IsSession takes start now (Err fault)
ends_cut takes received asked start now fault (inl is) coming sent closed within =
    subst (λ f. IsSession takes start now (Err f)) (sym is) (record {
      answer = λ texts told. tt;
      received = λ texts told. (received, (within texts told).0, coming ∙ ap (option_map (drop received)) told);
      sent = λ texts told.
          sent_some (words takes) asked (talk_at_end (opening takes) (map message_of texts)).answered start.sent now.sent (within texts told).1 sent;
      closed = closed;
    })
ends_cut takes received asked start now fault (inr is) coming sent closed within =
    subst (λ f. IsSession takes start now (Err f)) (sym is) (record {
      answer = λ texts told. tt;
      received = λ texts told. (received, (within texts told).0, coming ∙ ap (option_map (drop received)) told);
      sent = λ texts told.
          sent_some (words takes) asked (talk_at_end (opening takes) (map message_of texts)).answered start.sent now.sent (within texts told).1 sent;
      closed = closed;
    })

-- what was received and sent so far is within the run
within_run : (takes asked : ℕ) (texts : List (List ℕ)) (s : Session) → GoesOn takes texts s → asked ≤ s.client.answered + 1
    → (s.received ≤ length (run_heard takes texts)) × (asked ≤ (talk_at_end (opening takes) (map message_of texts)).answered + 1)
within_run takes asked texts s g le =
    let rest = map message_of (drop s.received texts) in
    (omega (arith, g.count), omega (arith, le, grows s.client rest, ap (λ (t : Talk). t.answered) g.ended))

-- where asking ends a session
asking_cut : (takes : ℕ) (start now later : LinkState) (s : Session) (fault : AttachFault) → (fault ≡ Failed) ⊎ (fault ≡ NoMemory)
    → IsOnWay takes s.client.answered start now s → later.coming ≡ now.coming → later.closed ≡ now.closed
    → (later.sent ≡ now.sent) ⊎ (later.sent ≡ with_word (word s.client) now.sent) → IsSession takes start later (Err fault)
asking_cut takes start now later s fault is way coming closed (inl sent) =
    ends_cut takes s.received s.client.answered start later fault is (coming ∙ way.coming) (sent ∙ way.sent) (closed ∙ way.closed)
    (λ texts told. within_run takes s.client.answered texts s (way.run texts told) (omega arith))
asking_cut takes start now later s fault is way coming closed (inr sent) =
    ends_cut takes s.received (s.client.answered + 1) start later fault is (coming ∙ way.coming)
    (put_next takes start.sent now.sent later.sent s way.of way.sent sent) (closed ∙ way.closed)
    (λ texts told. within_run takes (s.client.answered + 1) texts s (way.run texts told) (omega arith))

pub ends_asking : (takes : ℕ) (start now later : LinkState) (s : Session) (fault : AttachFault) → IsOnWay takes s.client.answered start now s
    → Asks s now later (Err fault) → IsSession takes start later (Err fault)
ends_asking takes start now later s Failed way asked = asking_cut takes start now later s Failed (inl refl) way asked.coming asked.closed asked.sent
ends_asking takes start now later s NoMemory way asked =
    asking_cut takes start now later s NoMemory (inr refl) way asked.coming asked.closed (inl asked.sent)
ends_asking takes start now later s Closed way asked = absurd asked.sent
ends_asking takes start now later s (Peer message why) way asked = absurd asked.sent

-- where no text is to come
closed_then : (takes : ℕ) (start now later : LinkState) (s : Session) → IsOnWay takes (s.client.answered + 1) start now s → IsSome (word s.client)
    → WhereTold now.coming (λ texts. texts ≡ []) → later.coming ≡ now.coming → later.sent ≡ now.sent → later.closed ≡ true
    → IsSession takes start later (Err Closed)
closed_then takes start now later s way some none coming sent closed = record {
  answer = λ texts told.
      let g = way.run texts told in
      λ i. end_of ((g.refused ∙ ap (λ xs. refused_from s.received (heard_all s.client (map message_of xs))) (left texts told)) i)
      ((ap (λ (t : Talk). is_none (awaited t)) (ended texts told) ∙ awaits s.client some) i)
      (snapshots (run_heard takes texts));
  received = λ texts told.
      let g = way.run texts told in (
        s.received,
        sym (g.count ∙ (ap (λ xs. s.received + length (heard_all s.client (map message_of xs))) (left texts told) ∙ omega arith)),
        coming ∙ (way.coming ∙ ap (option_map (drop s.received)) told),
      );
  sent = λ texts told.
      subst (λ (t : Talk). PutsIn {A = List Snapshot} (Err Closed) (take (t.answered + 1) (words takes)) start.sent later.sent) (sym (ended texts told))
      (sent_all (words takes) (s.client.answered + 1) start.sent later.sent (sent ∙ way.sent));
  closed = closed;
}
  where
    left : (texts : List (List ℕ)) → start.coming ≡ Some texts → drop s.received texts ≡ []
    left texts told = none (drop s.received texts) (way.coming ∙ ap (option_map (drop s.received)) told)

    ended : (texts : List (List ℕ)) → start.coming ≡ Some texts → talk_at_end (opening takes) (map message_of texts) ≡ s.client
    ended texts told = (way.run texts told).ended ∙ ap (λ xs. talk_at_end s.client (map message_of xs)) (left texts told)

-- where a text is refused
refused_then : (takes : ℕ) (start now later : LinkState) (s : Session) (text : List ℕ) (why : PeerWhy) → IsOnWay takes (s.client.answered + 1) start now s
    → IsSome (word s.client) → now.coming ≡ beginning_with text later.coming → heard_of s.client text ≡ Err why → later.sent ≡ now.sent
    → later.closed ≡ now.closed → IsSession takes start later (Err (Peer s.received why))
refused_then takes start now later s text why way some received is sent closed = record {
  answer = λ texts told.
      let g = way.run texts told in
      ap (λ r. end_of r (is_finished takes texts) (snapshots (run_heard takes texts))) (g.refused ∙ ap (refused_from s.received) (last texts told));
  received = λ texts told.
      let g = way.run texts told in (
        s.received + 1,
        sym (g.count ∙ ap (λ hs. s.received + length hs) (last texts told)),
        taken_one start.coming now.coming later.coming s.received text way.coming received ∙ ap (option_map (drop (s.received + 1))) told,
      );
  sent = λ texts told.
      subst (λ (t : Talk). PutsIn {A = List Snapshot} (Err (Peer s.received why)) (take (t.answered + 1) (words takes)) start.sent later.sent)
      (sym (ended texts told))
      (sent_all (words takes) (s.client.answered + 1) start.sent later.sent (sent ∙ way.sent));
  closed = closed ∙ way.closed;
}
  where
    left : (texts : List (List ℕ)) → start.coming ≡ Some texts → drop s.received texts ≡ text ∷ drop (s.received + 1) texts
    left texts told = next_of start.coming now.coming later.coming texts s.received text told way.coming received

    last : (texts : List (List ℕ)) → start.coming ≡ Some texts → heard_all s.client (map message_of (drop s.received texts)) ≡ Err why ∷ []
    last texts told =
        ap (λ xs. heard_all s.client (map message_of xs)) (left texts told)
        ∙ heard_last s.client (message_of text) (map message_of (drop (s.received + 1) texts)) why (awaits s.client some) is

    ended : (texts : List (List ℕ)) → start.coming ≡ Some texts → talk_at_end (opening takes) (map message_of texts) ≡ s.client
    ended texts told =
        (way.run texts told).ended
        ∙ (ap (λ xs. talk_at_end s.client (map message_of xs)) (left texts told)
        ∙ ends_last s.client (message_of text) (map message_of (drop (s.received + 1) texts)) why (awaits s.client some) is)

-- where memory runs out over a text
unheard_then : (takes : ℕ) (start now later : LinkState) (s : Session) (text : List ℕ) → IsOnWay takes (s.client.answered + 1) start now s
    → IsSome (word s.client) → now.coming ≡ beginning_with text later.coming → later.sent ≡ now.sent → later.closed ≡ now.closed
    → IsSession takes start later (Err NoMemory)
unheard_then takes start now later s text way some received sent closed =
    ends_cut takes (s.received + 1) (s.client.answered + 1) start later NoMemory (inr refl)
    (taken_one start.coming now.coming later.coming s.received text way.coming received) (sent ∙ way.sent) (closed ∙ way.closed)
    (λ texts told.
    let g = way.run texts told in
    let rest = map message_of (drop (s.received + 1) texts) in
    let left = ap (λ xs. length (heard_all s.client (map message_of xs)))
    (next_of start.coming now.coming later.coming texts s.received text told way.coming received) in (
      omega (arith, g.count, left, heard_one s.client (message_of text) rest (awaits s.client some)),
      (within_run takes (s.client.answered + 1) texts s g (omega arith)).1,
    ))

-- where hearing ends a session
pub ends_hearing : (takes : ℕ) (start now later : LinkState) (s t : Session) (fault : AttachFault) → IsOnWay takes (s.client.answered + 1) start now s
    → IsSome (word s.client) → HearsNext s t now later (Err fault) → IsSession takes start later (Err fault)
ends_hearing takes start now later s t Failed way some next =
    ends_cut takes s.received (s.client.answered + 1) start later Failed (inl refl) (next.coming ∙ way.coming) (next.sent ∙ way.sent) (next.closed ∙ way.closed)
    (λ texts told. within_run takes (s.client.answered + 1) texts s (way.run texts told) (omega arith))
ends_hearing takes start now later s t NoMemory way some next = without_memory next.coming
  where
    without_memory : (later.coming ≡ now.coming) ⊎ ((text : List ℕ) × (now.coming ≡ beginning_with text later.coming)) → IsSession takes start later (Err NoMemory)
    without_memory (inl same) =
        ends_cut takes s.received (s.client.answered + 1) start later NoMemory (inr refl) (same ∙ way.coming) (next.sent ∙ way.sent) (next.closed ∙ way.closed)
        (λ texts told. within_run takes (s.client.answered + 1) texts s (way.run texts told) (omega arith))
    without_memory (inr one) = unheard_then takes start now later s one.0 way some one.1 next.sent next.closed
ends_hearing takes start now later s t Closed way some next =
    closed_then takes start now later s way some next.coming.0 next.coming.1 next.sent next.closed
ends_hearing takes start now later s t (Peer message why) way some next =
    subst (λ m. IsSession takes start later (Err (Peer m why))) (sym next.coming.3)
    (refused_then takes start now later s next.coming.0 why way some next.coming.1 next.coming.2 next.sent next.closed)
