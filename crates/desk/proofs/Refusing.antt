-- A refusal adds no entry, and to some nothing is told.
use Rattle.std.proofs.Common.{◌≡◌, ℕ, List, [], ◌∷◌, ◌++◌, length, Option, Some, None, Bool, true, false, Ok, Err, refl, sym, ◌∙◌, arith, if◌then◌else◌}
use Rattle.std.specs.Prelude.{◌&&◌, map}
use Rattle.std.specs.Char.{to_ascii_lowercase}
use Rattle.std.proofs.lemmas.Bool.{false≢true}
use Rattle.agent_laws.specs.Actors.{has_no_asker}
use Rattle.agent_laws.proofs.Logs.Exchanges.{without_asker, decided_or_none}
use Rattle.agent_terms.specs.declared.request.Request.{Request}
use Rattle.agent_terms.specs.declared.request.Request.TheVariants as ask
use Rattle.agent_terms.specs.declared.request.ReplyOutcome.TheVariants as outcomes
use Rattle.coordinator_rules.specs.Decision.{Asking, Rules, Decision, asking, by, decide, domain_decision, domain_set, effective_domain, exchange, is_address, is_in_fragment, is_live, made_or_null, may_send, navigation, one, open_chosen, opener_set, sent_to, task_decision}
use Rattle.coordinator_rules.specs.Navigation.{Choice, Existing, New, Nothing, choice, flags_in, may_navigate}
use Rattle.coordinator_rules.specs.NextTask.{next_task}
use Rattle.frame_grammar.specs.Cut.{is_telling, reply_telling}
use Rattle.link_wire.specs.Bad.{Decoded}
use Rattle.link_wire.specs.Requests.{request_read}
use Rattle.link_wire.specs.declared.bad.Bad.{Bad}
use Rattle.origin_core.specs.Flags.{has_domain}
use Rattle.origin_core.specs.Site.{fits}
use Rattle.tree_log.specs.Tree.{Tree, tree_of, domain_of, nav_of, origin_of, same_domain}
use Rattle.tree_log.specs.Urls.{url_of}
use Rattle.tree_log.specs.declared.entry.Entry.{Entry}
use Rattle.tree_log.specs.declared.entry.What.{What}
use Rattle.tree_log.specs.declared.entry.What.TheVariants.{Domain, Name, Opener, Sync}
use Rattle.single_agent.specs.Turns.{is_full}
use Rattle.desk.specs.Refusals.{is_refusal, refused_with}
use Rattle.desk.specs.Serving.{answered, decided, decided_on, full, needs_room, told_after}

-- BYTES THAT ARE NO REQUEST

pub refused_bad : (rules : Rules) (log : List Entry) (r : ℕ) (bytes : List ℕ) (bad : Bad) → request_read bytes ≡ Err bad
    → answered rules log r bytes ≡ refused_with (outcomes.BadFrame bad.place bad.why)
unfolding answered
refused_bad rules log r bytes bad e = rw e refl

-- WHAT IS DECIDED IS NO REFUSAL

either : (b : Bool) (c d : Decision) → is_refusal c.outcome ≡ false → is_refusal d.outcome ≡ false → is_refusal (if b then c else d).outcome ≡ false
either true c d h k = h
either false c d h k = k

made_answers : (noopener : Bool) (n : ℕ) → is_refusal (made_or_null noopener n) ≡ false
made_answers true n = refl
made_answers false n = refl

opened : (a : Asking) (f : ℕ → List ℕ → Bool) (url : Option (List ℕ)) (name : List ℕ) (c : Choice) → is_refusal (open_chosen a f url name c).outcome ≡ false
opened a f url name Nothing = refl
opened a f url name New = made_answers a.noopener a.tree.navs
opened a f None name (Existing n) = made_answers a.noopener n
opened a f (Some url) name (Existing n) =
    either (may_send a n) (record { entries = opener_set a n ++ by a.renderer a.asker (sent_to a f n url) ∷ []; outcome = made_or_null a.noopener n }) (one a.renderer a.asker Sync (outcomes.Security 7))
    (made_answers a.noopener n) refl

-- done to a live document where it may be, and else none of it
done_answers : (live may : Bool) (r asker rule : ℕ) (w : What)
    → is_refusal (if live then if may then one r asker w outcomes.Done else one r asker Sync (outcomes.Security rule) else one r asker Sync outcomes.Done).outcome ≡ false
done_answers true true r asker rule w = refl
done_answers true false r asker rule w = refl
done_answers false may r asker rule w = refl

set_answers : (rules : Rules) (t : Tree) (r asker : ℕ) (value : List ℕ) (o : Option (List ℕ)) → is_refusal (domain_set rules t r asker value o).outcome ≡ false
set_answers rules t r asker value None = refl
set_answers rules t r asker value (Some effective) =
    either (fits value effective (is_address (origin_of t asker)) rules.suffixes) (one r asker (Domain asker value) outcomes.Done) (one r asker Sync (outcomes.Security 11)) refl refl

domain_answers : (rules : Rules) (t : Tree) (r asker : ℕ) (value : List ℕ) → is_refusal (domain_decision rules t r asker value).outcome ≡ false
domain_answers rules t r asker value =
    let o = effective_domain (origin_of t asker) (domain_of t asker) in
    either (has_domain (flags_in t (nav_of t asker))) (one r asker Sync (outcomes.Security 9)) (domain_set rules t r asker value o) refl (set_answers rules t r asker value o)

decide_answers : (rules : Rules) (t : Tree) (f : ℕ → List ℕ → Bool) (r : ℕ) (q : Request) → is_refusal (decide rules t f r q).outcome ≡ false
unfolding decide
decide_answers rules t f r (ask.Open asker url name noopener user) = opened (asking rules t r asker noopener user) f url name (choice t (nav_of t asker) name noopener user)
decide_answers rules t f r (ask.Go asker doc url user) =
    done_answers (is_live t asker doc) (may_navigate t (nav_of t asker) (nav_of t doc) user) r asker 7 (navigation rules t (f (nav_of t doc) url) asker (nav_of t doc) url)
decide_answers rules t f r (ask.Name asker doc name) = done_answers (is_live t asker doc) (same_domain t asker doc) r asker 8 (Name (nav_of t doc) name)
decide_answers rules t f r (ask.Disown asker doc) = done_answers (is_live t asker doc) (same_domain t asker doc) r asker 8 (Opener (nav_of t doc) None)
decide_answers rules t f r (ask.Domain asker value) = domain_answers rules t r asker (map to_ascii_lowercase value)
decide_answers rules t f r _ = refl

-- A REFUSAL ADDS NO ENTRY

IsEmptyIfRefused : Decision → Type 0
IsEmptyIfRefused d = is_refusal d.outcome ≡ true → d.entries ≡ []

task_refused : (r place : ℕ) (task : Option What) → IsEmptyIfRefused (task_decision r place task)
unfolding IsEmptyIfRefused
task_refused r place None h = refl
task_refused r place (Some w) h = absurd (false≢true h)

next_refused : (rules : Rules) (log : List Entry) (r : ℕ) → IsEmptyIfRefused (exchange rules log r ask.Next)
unfolding exchange
next_refused rules log r = task_refused r (length log) (next_task log r)

exchange_refused : (rules : Rules) (log : List Entry) (r : ℕ) (q : Request) → IsEmptyIfRefused (exchange rules log r q)
unfolding IsEmptyIfRefused
exchange_refused rules log r q = by_kind (has_no_asker q) refl where
  by_kind : (b : Bool) → has_no_asker q ≡ b → IsEmptyIfRefused (exchange rules log r q)
  by_kind true e = without_asker IsEmptyIfRefused rules log r q e (next_refused rules log r) (λ h. refl)
  by_kind false e =
      decided_or_none IsEmptyIfRefused rules log r q e (λ h. refl) (λ h. refl)
      (λ been home active h. absurd (false≢true (sym (decide_answers rules (tree_of log) (is_in_fragment (tree_of log) (url_of log)) r q) ∙ h)))

pub refused_empty : (rules : Rules) (log : List Entry) (r : ℕ) (bytes : List ℕ) → is_refusal (answered rules log r bytes).outcome ≡ true → (answered rules log r bytes).entries ≡ []
unfolding answered decided IsEmptyIfRefused
refused_empty rules log r bytes = by_read (request_read bytes) where
  by_room : (b : Bool) (q : Request) → IsEmptyIfRefused (if b then full log else exchange rules log r q)
  by_room true q h = refl
  by_room false q h = exchange_refused rules log r q h

  by_read : (read : Decoded Request) → IsEmptyIfRefused (decided_on rules log r read)
  by_read (Ok q) = by_room (is_full log && needs_room (tree_of log) r q) q
  by_read (Err bad) = λ h. refl

-- NOTHING IS TOLD

pub untold : (r : ℕ) (log : List Entry) (told : ℕ) (d : Decision) → is_telling d.outcome ≡ false → told_after r log told d ≡ told
unfolding reply_telling
untold r log told d h = rw h (omega arith)
