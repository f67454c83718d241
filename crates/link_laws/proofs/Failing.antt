-- An exchange over a link that fails at one call.
use Rattle.std.proofs.Common.{◌≡◌, ℕ, ◌+◌, ◌-◌, ◌≤◌, ◌^◌, List, ◌++◌, length, reverse, Bool, true, false, Option, Ok, Err, refl, sym, ap, subst, ◌∙◌, arith, not, eq-eqb, if◌then◌else◌}
use Rattle.std.specs.Prelude.{Result, min, ◌==◌, ◌&&◌, ◌||◌}
use Rattle.std.proofs.lemmas.Bool.{false≢true}
use Rattle.tree_log.specs.declared.entry.Entry.{Entry}
use Rattle.tree_log.proofs.Admitted.{both, eq_of}
use Rattle.agent_terms.specs.declared.request.Request.{Request}
use Rattle.agent_terms.specs.declared.request.Request.TheVariants as ask
use Rattle.link_exchange.specs.Calls.{Course, Told, Fails, Strays, Starves, IsCall, Exchanges, Unasked, Unanswered, Unread, Fails_now, Strays_now, Ends, Goes_on}
use Rattle.link_port.specs.Failing.{Behaves, calls, calls_after, drops, fault_count, Hands, has_failed, inside, is_counted, is_due, is_served, IsSame, number, Passes, Refuses, refuses, RefusesOr, unless}
use Rattle.link_port.specs.Spelled.{is_more, is_nothing}
use Rattle.link_port.specs.declared.failing.FailingLink.{FailingLink}
use Rattle.link_wire.specs.declared.link.Link.{Ghosts}
use Rattle.link_wire.specs.declared.link.LinkError.{LinkError}
use Rattle.link_wire.specs.declared.link.LinkError.TheVariants.{Failed, NoMemory}
use Rattle.link_wire.specs.Links.{AnswersFit, Counts, FailsByFault, GoesOn, Hears, Pending, Stays, step_of, under_way}
use Rattle.link_wire.specs.Requests.{request_frame}
use Rattle.link_laws.specs.Faring.{calls_with, Fares, first_counts, Unmade, Refused, Dropped, Passed}
use Rattle.link_laws.proofs.Carried.{carried, kept_on, kept_so, Passes_on}

-- what is said of a link that fails at one call
abbrev pub failing : {L : Type 0} → Ghosts L → Ghosts (FailingLink L)
failing link = record {
  renderer = λ l. unless (has_failed l) (link.renderer (inside l));
  heard = λ l. unless (has_failed l) (link.heard (inside l));
  pending = λ l. unless (has_failed l) (link.pending (inside l));
  faults = λ l. fault_count (has_failed l) (link.faults (inside l));
  relation = Behaves link.relation;
}

abbrev Answer : Type 0
Answer = Result (Unit {0}) LinkError

-- TESTS

and_false : (a : Bool) → (a && false) ≡ false
and_false true = refl
and_false false = refl

-- a request that isn't for the rest of a reply
pub not_more : (q : Request) → (q ≡ ask.More → ⊥) → is_more (request_frame q) ≡ false
not_more ask.More other = absurd (other refl)
not_more _ other = refl

counted_more : (answer : Answer) (bytes : List ℕ) → is_counted (request_frame ask.More) answer bytes ≡ false
counted_more (Ok x) bytes = refl
counted_more (Err e) bytes = refl

fault_is : (b : Bool) (n : ℕ) → b ≡ false → n ≤ 2 ^ 64 - 1 → fault_count b n ≡ n
fault_is true n h le = absurd (false≢true (sym h))
fault_is false n h le = omega (arith, le)

or_false : (a b c : Bool) → c ≡ (a || b) → a ≡ false → b ≡ false → c ≡ false
or_false true b c e h k = absurd (false≢true (sym h))
or_false false b c e h k = e ∙ k

or_true : (a b c : Bool) → c ≡ (a || b) → b ≡ true → c ≡ true
or_true true b c e k = e
or_true false b c e k = e ∙ k

ok_or_failed : (x : Unit {0}) → Ok x ≡ Err Failed → ⊥
ok_or_failed x e = absurd cc

memory_or_failed : (result : Answer) → result ≡ Err NoMemory → result ≡ Err Failed → ⊥
memory_or_failed result h k = let e = sym h ∙ k in absurd cc

module _ {L : Type 0} (link : Ghosts L) (small : (x : L) → link.faults x ≤ 2 ^ 64 - 1) where
  -- ONE CALL

  -- what the link says of a call is what the link inside says, where it hasn't failed
  same_call : (l m : FailingLink L) (q : Request) (result : Answer) (bytes : List ℕ) → has_failed l ≡ false → has_failed m ≡ false → IsCall (failing link) l q result bytes m
      → link.relation (inside l) (request_frame q) result bytes (inside m) → IsCall link (inside l) q result bytes (inside m)
  same_call l m q result bytes before after call relation =
      let was = fault_is (has_failed l) (link.faults (inside l)) before (small (inside l)) in
      let now = fault_is (has_failed m) (link.faults (inside m)) after (small (inside m)) in
      record {
        relation = relation;
        answers =
            subst (λ b. AnswersFit (unless b (link.renderer (inside l))) (unless b (link.heard (inside l))) (unless b (link.pending (inside l))) (request_frame q) result bytes)
            before call.answers;
        hears =
            subst (λ b. Hears (link.heard (inside l)) result bytes (unless b (link.heard (inside m)))) after
            (subst (λ b. Hears (unless b (link.heard (inside l))) result bytes (unless (has_failed m) (link.heard (inside m)))) before call.hears);
        goes_on =
            subst (λ b. GoesOn (link.heard (inside l)) (link.pending (inside l)) (request_frame q) result bytes (unless b (link.pending (inside m)))) after
            (subst (λ b. GoesOn (unless b (link.heard (inside l))) (unless b (link.pending (inside l))) (request_frame q) result bytes (unless (has_failed m) (link.pending (inside m)))) before
            call.goes_on);
        stays =
            subst (λ b. Stays (link.renderer (inside l)) (unless b (link.renderer (inside m)))) after
            (subst (λ b. Stays (unless b (link.renderer (inside l))) (unless (has_failed m) (link.renderer (inside m)))) before call.stays);
        fails =
            subst (λ n. FailsByFault (link.faults (inside l)) n result) now
            (subst (λ n. FailsByFault n (fault_count (has_failed m) (link.faults (inside m))) result) was call.fails);
        counts =
            subst (λ n. Counts (link.faults (inside l)) n) now (subst (λ n. Counts n (fault_count (has_failed m) (link.faults (inside m)))) was call.counts);
      }

  -- a call that was passed on, with its reply
  pub record Passed_on (l m : FailingLink L) (q : Request) (result : Answer) (bytes : List ℕ) : Type 0 where
    pub call : IsCall link (inside l) q result bytes (inside m)
    pub calls_are : calls m ≡ calls_after l (request_frame q) result bytes
    pub failed : has_failed m ≡ false
    pub undropped : drops l (request_frame q) result bytes ≡ false

  -- a call that was passed on, and its reply dropped
  pub record Dropped_on (l m : FailingLink L) (q : Request) : Type 0 where
    pub bytes : List ℕ
    pub answer : Answer
    pub drops_it : drops l (request_frame q) answer bytes ≡ true
    pub relation : link.relation (inside l) (request_frame q) answer bytes (inside m)
    pub calls_are : calls m ≡ calls_after l (request_frame q) answer bytes
    pub failed : has_failed m ≡ true

  pub data Called (l m : FailingLink L) (q : Request) (result : Answer) (bytes : List ℕ) : Type 0 where
    Is_refused : refuses l (request_frame q) ≡ true → Refuses l result bytes m → Called l m q result bytes
    Is_dropped : result ≡ Err Failed → Dropped_on l m q → Called l m q result bytes
    Is_passed : refuses l (request_frame q) ≡ false → Passed_on l m q result bytes → Called l m q result bytes

  passed_with : (l m : FailingLink L) (q : Request) (result : Answer) (bytes : List ℕ) → has_failed l ≡ false → IsCall (failing link) l q result bytes m
      → (p : Passes link.relation l (request_frame q) result bytes m) → drops l (request_frame q) p.answer p.bytes ≡ false → Passed_on l m q result bytes
  passed_with l m q result bytes before call p undropped =
      let hands : Hands false p.answer p.bytes result bytes = subst (λ b. Hands b p.answer p.bytes result bytes) undropped p.hands in
      let after = or_false (has_failed l) (drops l (request_frame q) p.answer p.bytes) (has_failed m) p.failed before undropped in
      let relation : link.relation (inside l) (request_frame q) result bytes (inside m) =
      subst (λ (b : List ℕ). link.relation (inside l) (request_frame q) result b (inside m)) (sym hands.1)
      (subst (λ (a : Answer). link.relation (inside l) (request_frame q) a p.bytes (inside m)) (sym hands.0) p.inside) in
      record {
        call = same_call l m q result bytes before after call relation;
        calls_are = p.calls ∙ ap (λ (a : Answer). calls_after l (request_frame q) a p.bytes) (sym hands.0) ∙ ap (λ (b : List ℕ). calls_after l (request_frame q) result b) (sym hands.1);
        failed = after;
        undropped = ap (λ (b : List ℕ). drops l (request_frame q) result b) hands.1 ∙ ap (λ (a : Answer). drops l (request_frame q) a p.bytes) hands.0 ∙ undropped;
      }

  pub called : (l m : FailingLink L) (q : Request) (result : Answer) (bytes : List ℕ) → has_failed l ≡ false → IsCall (failing link) l q result bytes m → Called l m q result bytes
  called l m q result bytes before call = by_refusal (refuses l (request_frame q)) refl
    where
      by_drop : (p : Passes link.relation l (request_frame q) result bytes m) (b : Bool) → drops l (request_frame q) p.answer p.bytes ≡ b → refuses l (request_frame q) ≡ false
          → Called l m q result bytes
      by_drop p true d e =
          let hands : Hands true p.answer p.bytes result bytes = subst (λ b. Hands b p.answer p.bytes result bytes) d p.hands in
          Is_dropped hands.0 (record {
            bytes = p.bytes;
            answer = p.answer;
            drops_it = d;
            relation = p.inside;
            calls_are = p.calls;
            failed = or_true (has_failed l) (drops l (request_frame q) p.answer p.bytes) (has_failed m) p.failed d;
          })
      by_drop p false d e = Is_passed e (passed_with l m q result bytes before call p d)

      by_refusal : (b : Bool) → refuses l (request_frame q) ≡ b → Called l m q result bytes
      by_refusal true e = Is_refused e (subst (λ b. RefusesOr b (Refuses l result bytes m) (Passes link.relation l (request_frame q) result bytes m)) e call.relation)
      by_refusal false e =
          let p : Passes link.relation l (request_frame q) result bytes m =
          subst (λ b. RefusesOr b (Refuses l result bytes m) (Passes link.relation l (request_frame q) result bytes m)) e call.relation in
          by_drop p (drops l (request_frame q) p.answer p.bytes) refl e

  -- THE REST OF A REPLY

  rest_kept : (n : ℕ) (l m : FailingLink L) (result : Answer) (bytes : List ℕ) → (has_failed l ≡ false) × (calls l ≡ n) → IsCall (failing link) l ask.More result bytes m
      → Passed_on l m ask.More result bytes
  rest_kept n l m result bytes is call = by_call (called l m ask.More result bytes is.0 call)
    where
      by_call : Called l m ask.More result bytes → Passed_on l m ask.More result bytes
      by_call (Is_refused e h) = absurd (false≢true (sym (and_false (not (is_served l) && is_due l)) ∙ e))
      by_call (Is_dropped e d) =
          absurd (false≢true (sym (ap (λ b. is_served l && is_due l && b) (counted_more d.answer d.bytes) ∙ and_false (is_served l && is_due l)) ∙ d.drops_it))
      by_call (Is_passed e p) = p

  rest_calls : (n : ℕ) (l m : FailingLink L) (result : Answer) (bytes : List ℕ) → (has_failed l ≡ false) × (calls l ≡ n) → Passed_on l m ask.More result bytes
      → (has_failed m ≡ false) × (calls m ≡ n)
  rest_calls n l m result bytes is p =
      (p.failed, p.calls_are ∙ ap (λ b. if b then min (calls l + 1) (2 ^ 32 - 1) else calls l) (counted_more result bytes) ∙ is.1)

  rest_passes : (n : ℕ) → Passes_on (failing link) link inside (λ l. (has_failed l ≡ false) × (calls l ≡ n)) (λ q. q ≡ ask.More)
  rest_passes n = record {
    more = refl;
    call = λ l m q result bytes asks is call.
        subst (λ x. IsCall link (inside l) x result bytes (inside m)) (sym asks)
        (rest_kept n l m result bytes is (subst (λ x. IsCall (failing link) l x result bytes m) asks call)).call;
    kept = λ l m q result bytes asks is call.
        rest_calls n l m result bytes is (rest_kept n l m result bytes is (subst (λ x. IsCall (failing link) l x result bytes m) asks call));
  }

  -- THE FIRST CALL

  served_if : (s d m : Bool) → ((not s && d) && not m) ≡ false → d ≡ true → m ≡ false → s ≡ true
  served_if true d m h e k = refl
  served_if false true true h e k = absurd (false≢true (sym k))
  served_if false true false h e k = absurd (false≢true (sym h))
  served_if false false m h e k = absurd (false≢true e)

  uncounted_if : (s d c : Bool) → ((s && d) && c) ≡ false → s ≡ true → d ≡ true → c ≡ false
  uncounted_if true true c h e k = h
  uncounted_if true false c h e k = absurd (false≢true k)
  uncounted_if false d c h e k = absurd (false≢true e)

  unserved : (s : Bool) → not s ≡ true → s ≡ false
  unserved true h = absurd (false≢true h)
  unserved false h = refl

  due : (l : FailingLink L) → has_failed l ≡ false → number l ≡ calls l + 1 → is_due l ≡ true
  due l before at = ap (λ b. not b && (calls l + 1 == number l)) before ∙ eq-eqb (calls l + 1) (number l) (sym at)

  due_at : (l : FailingLink L) → is_due l ≡ true → number l ≡ calls l + 1
  due_at l h = sym (eq_of (calls l + 1) (number l) (both (not (has_failed l)) (calls l + 1 == number l) h).1)

  after_is : (c : Bool) (n : ℕ) → (if c then min (n + 1) (2 ^ 32 - 1) else n) ≡ calls_with c n
  after_is true n = refl
  after_is false n = refl

  -- the first call was passed on
  pub record Kept (l m : FailingLink L) (q : Request) (result : Answer) (bytes : List ℕ) : Type 0 where
    pub refused : refuses l (request_frame q) ≡ false
    pub on : Passed_on l m q result bytes

  kept_if : (l m : FailingLink L) (q : Request) (result : Answer) (bytes : List ℕ) → (result ≡ Err Failed → ⊥) → Called l m q result bytes → Kept l m q result bytes
  kept_if l m q result bytes ok (Is_refused e h) = absurd (ok h.fails)
  kept_if l m q result bytes ok (Is_dropped e d) = absurd (ok e)
  kept_if l m q result bytes ok (Is_passed e p) = record { refused = e; on = p }

  module _ (r : ℕ) (l : FailingLink L) (heard : List Entry) (pending : Option Pending) (q : Request) (other : q ≡ ask.More → ⊥) (before : has_failed l ≡ false) where
    -- an exchange whose first call was passed on
    fares_on : (mid m : FailingLink L) (result : Answer) (bytes : List ℕ) (course : Course) → Kept l mid q result bytes
        → (exchange : Exchanges link r (inside l) heard pending q course (inside m)) → first_counts exchange ≡ is_counted (request_frame q) result bytes
        → (has_failed m ≡ false) × (calls m ≡ calls mid) → Fares link r l heard pending q m course
    fares_on mid m result bytes course kept exchange counted after =
        Passed course exchange
        (λ at.
        let on = due l before at in
        let served = served_if (is_served l) (is_due l) (is_more (request_frame q)) kept.refused on (not_more q other) in
        (served, counted ∙ uncounted_if (is_served l) (is_due l) (is_counted (request_frame q) result bytes) kept.on.undropped served on))
        (after.1 ∙ kept.on.calls_are ∙ after_is (is_counted (request_frame q) result bytes) (calls l) ∙ ap (λ b. calls_with b (calls l)) (sym counted))
        after.0

    counted_is : (bytes : List ℕ) → not (is_nothing bytes) ≡ is_counted (request_frame q) (Ok tt) bytes
    counted_is bytes = ap (λ b. not b && not (is_nothing bytes)) (sym (not_more q other))

    kept : (m : FailingLink L) (result : Answer) (bytes : List ℕ) → (result ≡ Err Failed → ⊥) → IsCall (failing link) l q result bytes m → Kept l m q result bytes
    kept m result bytes ok call = kept_if l m q result bytes ok (called l m q result bytes before call)

    dropped : (m : FailingLink L) (bytes : List ℕ) (answer : Answer) → drops l (request_frame q) answer bytes ≡ true → link.relation (inside l) (request_frame q) answer bytes (inside m)
        → calls m ≡ calls_after l (request_frame q) answer bytes → has_failed m ≡ true → Fares link r l heard pending q m Fails
    dropped m bytes (Ok x) d relation after failed =
        let parts = both (is_served l && is_due l) (is_counted (request_frame q) (Ok tt) bytes) d in
        let first = both (is_served l) (is_due l) parts.0 in
        Dropped bytes (due_at l first.1) first.0 (unserved (is_nothing bytes) (counted_is bytes ∙ parts.1)) relation
        (after ∙ after_is (is_counted (request_frame q) (Ok tt) bytes) (calls l) ∙ ap (λ b. calls_with b (calls l)) parts.1) failed
    dropped m bytes (Err x) d relation after failed = absurd (false≢true (both (is_served l && is_due l) false d).1)

    failed_now : (m : FailingLink L) (bytes : List ℕ) → Called l m q (Err Failed) bytes → Fares link r l heard pending q m Fails
    failed_now m bytes (Is_refused e h) =
        let parts = both (not (is_served l) && is_due l) (not (is_more (request_frame q))) e in
        let first = both (not (is_served l)) (is_due l) parts.0 in
        Refused (due_at l first.1) (unserved (is_served l) first.0) h.inside h.calls h.failed
    failed_now m bytes (Is_dropped e d) = dropped m d.bytes d.answer d.drops_it d.relation d.calls_are d.failed
    failed_now m bytes (Is_passed e p) =
        fares_on m m (Err Failed) bytes Fails (record { refused = e; on = p }) (Fails_now (inside l) (inside m) heard pending q bytes p.call) refl (p.failed, refl)

    pub fares : (m : FailingLink L) (course : Course) → Exchanges (failing link) r l heard pending q course m → Fares link r l heard pending q m course
    fares m course (Unasked _ _ _ _) = Unmade refl
    fares m course (Unanswered _ _ _ _ _ bytes call) =
        let k = kept m (Err NoMemory) bytes (memory_or_failed (Err NoMemory) refl) call in
        fares_on m m (Err NoMemory) bytes Starves k (Unanswered (inside l) (inside m) heard pending q bytes k.on.call) refl (k.on.failed, refl)
    fares m course (Unread _ _ _ _ _ bytes call) =
        let k = kept m (Ok tt) bytes (ok_or_failed tt) call in
        fares_on m m (Ok tt) bytes Starves k (Unread (inside l) (inside m) heard pending q bytes k.on.call) (counted_is bytes) (k.on.failed, refl)
    fares m course (Fails_now _ _ _ _ _ bytes call) = failed_now m bytes (called l m q (Err Failed) bytes before call)
    fares m course (Strays_now _ _ _ _ _ bytes place call stray) =
        let k = kept m (Ok tt) bytes (ok_or_failed tt) call in
        fares_on m m (Ok tt) bytes (Strays place) k (Strays_now (inside l) (inside m) heard pending q bytes place k.on.call stray) (counted_is bytes) (k.on.failed, refl)
    fares m course (Ends _ _ _ _ _ bytes answer call answered last) =
        let k = kept m (Ok tt) bytes (ok_or_failed tt) call in
        fares_on m m (Ok tt) bytes (Told (reverse answer.news ++ heard) (step_of (length heard) pending q answer.outcome).outcome) k
        (Ends (inside l) (inside m) heard pending q bytes answer k.on.call answered last) (counted_is bytes) (k.on.failed, refl)
    fares m course (Goes_on _ mid _ _ _ _ bytes answer _ call answered more rest) =
        let k = kept mid (Ok tt) bytes (ok_or_failed tt) call in
        let now = reverse answer.news ++ heard in
        let under = under_way (length heard) pending q answer in
        let is : (has_failed mid ≡ false) × (calls mid ≡ calls mid) = (k.on.failed, refl) in
        fares_on mid m (Ok tt) bytes course k
        (Goes_on (inside l) (inside mid) (inside m) heard pending q bytes answer course k.on.call answered more
        (carried (failing link) link inside (λ x. (has_failed x ≡ false) × (calls x ≡ calls mid)) (λ x. x ≡ ask.More) (rest_passes (calls mid)) r mid m now under ask.More course refl is rest))
        (counted_is bytes)
        (kept_on (failing link) link inside (λ x. (has_failed x ≡ false) × (calls x ≡ calls mid)) (λ x. x ≡ ask.More) (rest_passes (calls mid)) r mid m now under ask.More course refl is rest)

-- IT FAILS AT THE SAME CALL

module _ {L : Type 0} (link : Ghosts L) where
  same_once : (l m : FailingLink L) (q : Request) (result : Answer) (bytes : List ℕ) (b : Bool)
      → RefusesOr b (Refuses l result bytes m) (Passes link.relation l (request_frame q) result bytes m) → IsSame l m
  same_once l m q result bytes true h = h.same
  same_once l m q result bytes false h = h.same

  same_by : (l m : FailingLink L) (q : Request) (result : Answer) (bytes : List ℕ) → IsCall (failing link) l q result bytes m → IsSame l m
  same_by l m q result bytes call = same_once l m q result bytes (refuses l (request_frame q)) call.relation

  pub stays_same : (r : ℕ) (l m : FailingLink L) (heard : List Entry) (pending : Option Pending) (q : Request) (course : Course) → Exchanges (failing link) r l heard pending q course m → IsSame l m
  stays_same = kept_so (failing link) IsSame (λ l. record { number = refl; served = refl; inner = refl })
      (λ k l m a b. record { number = b.number ∙ a.number; served = b.served ∙ a.served; inner = b.inner ∙ a.inner }) same_by
