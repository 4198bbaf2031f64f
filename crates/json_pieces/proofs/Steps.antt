-- What a sink has got, step by step.
use Rattle.std.proofs.Common.{◌≡◌, ◌≤◌, ℕ, List, [], ◌++◌, length, take, drop, refl, sym, ap, ◌∙◌, subst, arith}
use Rattle.std.specs.Prelude.{Option, None, Some, Result, Ok, Err}
use Rattle.std.proofs.Math.Seq.{take-append_seam}
use Rattle.std.proofs.lemmas.List.{append-nil, append_assoc, nil_from_length, take-append-drop}
use Rattle.std.proofs.lemmas.Result.{on_ok_weaker}
use Rattle.std.specs.Io.KnownBytes.{Appends, Keeps}
use Rattle.cov_io.specs.Causes.{HasCause}
use Rattle.cov_io.specs.Grows.{AppendsPart, longest_after}
use Rattle.cov_io.specs.declared.sink.SinkFault.{SinkFault}
use Rattle.cov_io.specs.declared.sink.SinkFault.TheVariants.{Failed, NoMemory}
use Rattle.json_pieces.specs.Pieces.{OutAt, IsWithin, piece, Writes, Hands}

-- ---- told bytes that grow

pub appends-same : (told : Option (List ℕ)) → Appends told told []
appends-same None = tt
appends-same (Some xs) = sym (append-nil xs)

pub appends-join : (a b c : Option (List ℕ)) (x y : List ℕ) → Appends a b x → Appends b c y → Appends a c (x ++ y)
appends-join None b c x y h k = tt
appends-join (Some xs) None c x y h k = absurd h
appends-join (Some xs) (Some ys) None x y h k = absurd k
appends-join (Some xs) (Some ys) (Some zs) x y h k = k ∙ ap (λ w. w ++ y) h ∙ append_assoc xs x y

-- ---- the longest piece

pub within-same : (limit : ℕ) (told : Option ℕ) → IsWithin limit told told
within-same limit None = tt
within-same limit (Some n) = omega arith

pub within-join : (limit : ℕ) (a b c : Option ℕ) → IsWithin limit a b → IsWithin limit b c → IsWithin limit a c
within-join limit None b c h k = tt
within-join limit (Some n) None c h k = absurd h
within-join limit (Some n) (Some m) None h k = absurd k
within-join limit (Some n) (Some m) (Some o) h k = omega arith

pub within-one : (limit : ℕ) (told : Option ℕ) (part : List ℕ) → length part ≤ limit → IsWithin limit told (longest_after part told)
within-one limit None part h = tt
within-one limit (Some n) part h = omega arith

-- ---- a front of a text

part-of : (before now : Option (List ℕ)) (text x y : List ℕ) → text ≡ x ++ y → Appends before now x → AppendsPart before now text
part-of before now text x y is h = (length x, subst (Appends before now) (sym (ap (take (length x)) is ∙ take-append_seam x y)) h)

no-more : (before now : Option (List ℕ)) → Keeps before now → Appends before now []
no-more None now k = tt
no-more (Some xs) None k = absurd k
no-more (Some xs) (Some ys) k = k ∙ sym (append-nil xs)

-- what a write that is refused leaves
refused : (before now : Option (List ℕ)) (text : List ℕ) (fault : SinkFault) → (fault ≡ Failed → AppendsPart before now text) → (fault ≡ NoMemory → Keeps before now) → AppendsPart before now text
refused before now text Failed failed memory = failed refl
refused before now text NoMemory failed memory = (0, no-more before now (memory refl))

-- a count that stays, and then tells a cause
cause-then : (a b c : ℕ) (result : Result (Unit {0}) SinkFault) → b ≡ a → HasCause Failed b c result → HasCause Failed a c result
cause-then a b c result same h = subst (λ n. HasCause Failed n c result) same h

-- ---- a text that is written in pieces

-- What is behind a part of a text that a sink has got.
pub record Walked (text rest : List ℕ) (before now : OutAt) : Type 0 where
  pub got : List ℕ
  pub all : got ++ rest ≡ text
  pub gains : Appends before.held now.held got
  pub within : IsWithin piece before.longest now.longest
  pub faults : now.faults ≡ before.faults

pub walked-none : (text : List ℕ) (at : OutAt) → Walked text text at at
walked-none text at = record { got = []; all = refl; gains = appends-same at.held; within = within-same piece at.longest; faults = refl }

within-more : (a b c : Option ℕ) (part : List ℕ) → IsWithin piece a b → length part ≤ piece → c ≡ longest_after part b → IsWithin piece a c
within-more a b c part h short is = subst (IsWithin piece a) (sym is) (within-join piece a b (longest_after part b) h (within-one piece b part short))

pub walked-more : (text part rest left : List ℕ) (a b c : OutAt) → Walked text rest a b → rest ≡ part ++ left → length part ≤ piece
    → Appends b.held c.held part → c.longest ≡ longest_after part b.longest → c.faults ≡ b.faults → Walked text left a c
walked-more text part rest left a b c w is short grown longest faults = record {
  got = w.got ++ part;
  all = append_assoc w.got part left ∙ ap (λ x. w.got ++ x) (sym is) ∙ w.all;
  gains = appends-join a.held b.held c.held w.got part w.gains grown;
  within = within-more a.longest b.longest c.longest part w.within short longest;
  faults = faults ∙ w.faults;
}

pub walked-stops : (text part rest left : List ℕ) (a b c : OutAt) (fault : SinkFault) → Walked text rest a b → rest ≡ part ++ left → length part ≤ piece
    → (fault ≡ Failed → AppendsPart b.held c.held part) → (fault ≡ NoMemory → Keeps b.held c.held) → c.longest ≡ longest_after part b.longest
    → HasCause {T = Unit {0}} Failed b.faults c.faults (Err fault) → Writes text a c (Err fault)
walked-stops text part rest left a b c fault w is short failed memory longest cause =
    let p = refused b.held c.held part fault failed memory in
    let front = take p.0 part in
    let whole = sym w.all ∙ ap (λ x. w.got ++ x) (is ∙ ap (λ x. x ++ left) (sym (take-append-drop p.0 part)) ∙ append_assoc front (drop p.0 part) left) ∙ sym (append_assoc w.got front (drop p.0 part ++ left)) in
    record {
      whole = tt;
      prefix = part-of a.held c.held text (w.got ++ front) (drop p.0 part ++ left) whole (appends-join a.held b.held c.held w.got front w.gains p.1);
      within = within-more a.longest b.longest c.longest part w.within short longest;
      cause = cause-then a.faults b.faults c.faults (Err fault) w.faults cause;
    }

pub walked-all : (text rest : List ℕ) (a b : OutAt) → Walked text rest a b → length rest ≡ 0 → Writes text a b (Ok tt)
walked-all text rest a b w none =
    let whole = sym (append-nil w.got) ∙ ap (λ x. w.got ++ x) (sym (nil_from_length rest none)) ∙ w.all in
    let grown = subst (Appends a.held b.held) whole w.gains in
    record {
      whole = grown;
      prefix = part-of a.held b.held text text [] (sym (append-nil text)) grown;
      within = w.within;
      cause = record { later = omega (arith, w.faults); kept = w.faults; rose = λ e. absurd cc };
    }

-- ---- a text that is put behind what is kept

pub hands-front : (text all now : List ℕ) (full : ℕ) (a b : OutAt) → all ≡ text → Writes (take full all) a b (Ok tt) → now ≡ drop full text → Hands [] a b text now (Ok tt)
hands-front text all now full a b same w is = record {
  got = take full all;
  left = drop full all;
  all = take-append-drop full all ∙ same ∙ sym (append-nil text);
  gains = w.whole;
  kept = is ∙ ap (drop full) (sym same);
  within = w.within;
  cause = w.cause;
}

pub hands-part : (text all now : List ℕ) (full : ℕ) (a b : OutAt) (fault : SinkFault) → all ≡ text → Writes (take full all) a b (Err fault) → Hands [] a b text now (Err fault)
hands-part text all now full a b fault same w =
    let n = w.prefix.0 in let front = take full all in record {
      got = take n front;
      left = drop n front ++ drop full all;
      all = sym (append_assoc (take n front) (drop n front) (drop full all)) ∙ ap (λ x. x ++ drop full all) (take-append-drop n front) ∙ take-append-drop full all ∙ same ∙ sym (append-nil text);
      gains = w.prefix.1;
      kept = tt;
      within = w.within;
      cause = w.cause;
    }

-- the same text, told otherwise
pub hands-of : (x y : List ℕ) (a b : OutAt) (kept now : List ℕ) (result : Result (Unit {0}) SinkFault) → x ≡ y → Hands x a b kept now result → Hands y a b kept now result
hands-of x y a b kept now result same h = subst (λ t. Hands t a b kept now result) same h

-- behind the same, told otherwise
pub hands-behind : (text : List ℕ) (a b : OutAt) (kept other now : List ℕ) (result : Result (Unit {0}) SinkFault) → kept ≡ other → Hands text a b kept now result → Hands text a b other now result
hands-behind text a b kept other now result same h = subst (λ k. Hands text a b k now result) same h

-- nothing is handed over yet
pub hands-none : (text : List ℕ) (at : OutAt) (kept now : List ℕ) → now ≡ kept ++ text → Hands text at at kept now (Ok tt)
hands-none text at kept now is = record {
  got = [];
  left = kept ++ text;
  all = refl;
  gains = appends-same at.held;
  kept = is;
  within = within-same piece at.longest;
  cause = record { later = omega arith; kept = refl; rose = λ e. absurd cc };
}

pub hands-short : (text : List ℕ) (at : OutAt) (kept now : List ℕ) → Hands text at at kept now (Err NoMemory)
hands-short text at kept now = record {
  got = [];
  left = kept ++ text;
  all = refl;
  gains = appends-same at.held;
  kept = tt;
  within = within-same piece at.longest;
  cause = record { later = omega arith; kept = tt; rose = λ e. absurd cc };
}

-- one part after the other
pub hands-join : (x y : List ℕ) (a b c : OutAt) (kept middle now : List ℕ) (result : Result (Unit {0}) SinkFault)
    → Hands x a b kept middle (Ok tt) → Hands y b c middle now result → Hands (x ++ y) a c kept now result
hands-join x y a b c kept middle now result h k = record {
  got = h.got ++ k.got;
  left = k.left;
  all = append_assoc h.got k.got k.left ∙ ap (λ z. h.got ++ z) (k.all ∙ ap (λ z. z ++ y) h.kept) ∙ sym (append_assoc h.got h.left y) ∙ ap (λ z. z ++ y) h.all ∙ append_assoc kept x y;
  gains = appends-join a.held b.held c.held h.got k.got h.gains k.gains;
  kept = k.kept;
  within = within-join piece a.longest b.longest c.longest h.within k.within;
  cause = cause-then a.faults b.faults c.faults result h.cause.kept k.cause;
}

-- the rest of a text doesn't come
pub hands-stops : (x y : List ℕ) (a b : OutAt) (kept middle now : List ℕ) (fault : SinkFault) → Hands x a b kept middle (Err fault) → Hands (x ++ y) a b kept now (Err fault)
hands-stops x y a b kept middle now fault h = record {
  got = h.got;
  left = h.left ++ y;
  all = sym (append_assoc h.got h.left y) ∙ ap (λ z. z ++ y) h.all ∙ append_assoc kept x y;
  gains = h.gains;
  kept = tt;
  within = h.within;
  cause = h.cause;
}

-- ---- a text in three parts, of which the middle one is handed over on the way

pub front-then : (x y z : List ℕ) (a b : OutAt) (kept first now : List ℕ) (fault : SinkFault) → first ≡ kept ++ x → Hands y a b first now (Err fault)
    → Hands (x ++ (y ++ z)) a b kept now (Err fault)
front-then x y z a b kept first now fault is h =
    hands-join x (y ++ z) a a b kept first now (Err fault) (hands-none x a kept first is) (hands-stops y z a b first now now fault h)

pub middle-then : (x y z : List ℕ) (a b : OutAt) (kept first second now : List ℕ) → first ≡ kept ++ x → Hands y a b first second (Ok tt)
    → Hands (x ++ (y ++ z)) a b kept now (Err NoMemory)
middle-then x y z a b kept first second now is h =
    hands-join x (y ++ z) a a b kept first now (Err NoMemory) (hands-none x a kept first is) (hands-join y z a b b first second now (Err NoMemory) h (hands-short z b second now))

pub three-parts : (x y z : List ℕ) (a b : OutAt) (kept first second now : List ℕ) → first ≡ kept ++ x → Hands y a b first second (Ok tt) → now ≡ second ++ z
    → Hands (x ++ (y ++ z)) a b kept now (Ok tt)
three-parts x y z a b kept first second now is h last =
    hands-join x (y ++ z) a a b kept first now (Ok tt) (hands-none x a kept first is) (hands-join y z a b b first second now (Ok tt) h (hands-none z b second now last))

-- ---- a list, one after the other

-- What is behind a part of a text that was put behind what is kept.
pub record Waits (all rest : List ℕ) (before now : OutAt) (kept_before kept_now : List ℕ) : Type 0 where
  pub done : List ℕ
  pub split : done ++ rest ≡ all
  pub hands : Hands done before now kept_before kept_now (Ok tt)

pub waits-none : (all : List ℕ) (at : OutAt) (kept : List ℕ) → Waits all all at at kept kept
waits-none all at kept = record { done = []; split = refl; hands = hands-none [] at kept kept (sym (append-nil kept)) }

-- the rest is put, or some of it
pub waits-last : (all rest : List ℕ) (a b c : OutAt) (kept middle now : List ℕ) (result : Result (Unit {0}) SinkFault) → Waits all rest a b kept middle
    → Hands rest b c middle now result → Hands all a c kept now result
waits-last all rest a b c kept middle now result w h =
    subst (λ t. Hands t a c kept now result) w.split (hands-join w.done rest a b c kept middle now result w.hands h)

-- one more is put, and the full pieces are handed over
pub waits-more : (all rest x y left : List ℕ) (a b c d : OutAt) (kept middle first second now : List ℕ) → Waits all rest a b kept middle → rest ≡ x ++ (y ++ left)
    → first ≡ middle ++ x → Hands y b c first second (Ok tt) → Hands [] c d second now (Ok tt) → Waits all left a d kept now
waits-more all rest x y left a b c d kept middle first second now w is grown h k = record {
  done = w.done ++ (x ++ (y ++ []));
  split = append_assoc w.done (x ++ (y ++ [])) left
      ∙ ap (λ t. w.done ++ t) (append_assoc x (y ++ []) left ∙ ap (λ t. x ++ t) (append_assoc y [] left) ∙ sym is) ∙ w.split;
  hands = hands-join w.done (x ++ (y ++ [])) a b d kept middle now (Ok tt) w.hands
      (hands-join x (y ++ []) b b d middle first now (Ok tt) (hands-none x b middle first grown) (hands-join y [] b c d first second now (Ok tt) h k));
}

-- one more is not put whole
pub waits-broken : (all rest x y left : List ℕ) (a b c : OutAt) (kept middle first now : List ℕ) (fault : SinkFault) → Waits all rest a b kept middle
    → rest ≡ x ++ (y ++ left) → first ≡ middle ++ x → Hands y b c first now (Err fault) → Hands all a c kept now (Err fault)
waits-broken all rest x y left a b c kept middle first now fault w is grown h =
    waits-last all rest a b c kept middle now (Err fault) w (subst (λ t. Hands t b c middle now (Err fault)) (sym is) (front-then x y left b c middle first now fault grown h))

-- the full pieces behind one more are not handed over
pub waits-stops : (all rest x y left : List ℕ) (a b c d : OutAt) (kept middle first second now : List ℕ) (fault : SinkFault) → Waits all rest a b kept middle
    → rest ≡ x ++ (y ++ left) → first ≡ middle ++ x → Hands y b c first second (Ok tt) → Hands [] c d second now (Err fault) → Hands all a d kept now (Err fault)
waits-stops all rest x y left a b c d kept middle first second now fault w is grown h k =
    waits-last all rest a b d kept middle now (Err fault) w (subst (λ t. Hands t b d middle now (Err fault)) (sym is)
    (hands-join x (y ++ left) b b d middle first now (Err fault) (hands-none x b middle first grown)
    (hands-join y left b c d first second now (Err fault) h (hands-stops [] left c d second now now fault k))))

-- one more part of the rest is put
pub waits-part : {all y : List ℕ} {a b c : OutAt} {kept middle now : List ℕ} (x left : List ℕ) → y ≡ x → Waits all (x ++ left) a b kept middle
    → Hands y b c middle now (Ok tt) → Waits all left a c kept now
waits-part {all} {y} {a} {b} {c} {kept} {middle} {now} x left same w h = record {
  done = w.done ++ x;
  split = append_assoc w.done x left ∙ w.split;
  hands = hands-join w.done x a b c kept middle now (Ok tt) w.hands (hands-of y x b c middle now (Ok tt) same h);
}

-- one more part of the rest is not put whole
pub waits-fails : {all y : List ℕ} {a b c : OutAt} {kept middle now : List ℕ} {fault : SinkFault} (x left : List ℕ) → y ≡ x → Waits all (x ++ left) a b kept middle
    → Hands y b c middle now (Err fault) → Hands all a c kept now (Err fault)
waits-fails {all} {y} {a} {b} {c} {kept} {middle} {now} {fault} x left same w h =
    waits-last all (x ++ left) a b c kept middle now (Err fault) w (hands-stops x left b c middle now now fault (hands-of y x b c middle now (Err fault) same h))

-- nothing is left
pub waits-done : (all rest : List ℕ) (a b : OutAt) (kept now : List ℕ) → Waits all rest a b kept now → rest ≡ [] → Hands all a b kept now (Ok tt)
waits-done all rest a b kept now w none =
    subst (λ t. Hands t a b kept now (Ok tt)) (sym (append-nil w.done) ∙ ap (λ t. w.done ++ t) (sym none) ∙ w.split) w.hands

-- ---- the whole

-- what is kept is handed over at the end
pub writes-last : (text last : List ℕ) (a b c : OutAt) (kept : List ℕ) (result : Result (Unit {0}) SinkFault) → Hands text a b [] kept (Ok tt) → last ≡ kept
    → Writes last b c result → Writes text a c result
writes-last text last a b c kept result h same w =
    let is = ap (λ x. h.got ++ x) (same ∙ h.kept) ∙ h.all in
    let n = w.prefix.0 in
    record {
      whole = on_ok_weaker result (λ grown. subst (Appends a.held c.held) is (appends-join a.held b.held c.held h.got last h.gains grown)) w.whole;
      prefix = part-of a.held c.held text (h.got ++ take n last) (drop n last)
          (sym is ∙ ap (λ x. h.got ++ x) (sym (take-append-drop n last)) ∙ sym (append_assoc h.got (take n last) (drop n last)))
          (appends-join a.held b.held c.held h.got (take n last) h.gains w.prefix.1);
      within = within-join piece a.longest b.longest c.longest h.within w.within;
      cause = cause-then a.faults b.faults c.faults result h.cause.kept w.cause;
    }

pub writes-part : (text : List ℕ) (a b : OutAt) (now : List ℕ) (fault : SinkFault) → Hands text a b [] now (Err fault) → Writes text a b (Err fault)
writes-part text a b now fault h = record {
  whole = tt;
  prefix = part-of a.held b.held text h.got h.left (sym h.all) h.gains;
  within = h.within;
  cause = h.cause;
}
