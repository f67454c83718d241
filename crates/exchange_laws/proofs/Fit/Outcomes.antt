-- The outcome of an exchange is in range, where the log was.
use Rattle.std.proofs.Common.{◌≡◌, ℕ, ◌<◌, ◌≤◌, ◌^◌, suc, List, [], ◌∷◌, ◌++◌, length, Option, Some, None, Bool, true, false, refl, subst, arith}
use Rattle.std.specs.Prelude.{map, if◌then◌else◌}
use Rattle.std.specs.Char.{to_ascii_lowercase}
use Rattle.origin_core.specs.Flags.{has_domain}
use Rattle.origin_core.specs.Site.{fits}
use Rattle.tree_log.specs.declared.entry.Entry.{Entry}
use Rattle.tree_log.specs.declared.entry.What.{What}
use Rattle.tree_log.specs.declared.entry.What.TheVariants.{Sync, Name, Opener, Domain}
use Rattle.tree_log.specs.Tree.{Tree, tree_of, home_of, nav_of, origin_of, domain_of, is_active, same_domain}
use Rattle.tree_log.specs.Urls.{url_of}
use Rattle.tree_log.proofs.Admitted.{few_of}
use Rattle.agent_terms.specs.declared.request.Request.{Request}
use Rattle.agent_terms.specs.declared.request.Request.TheVariants as ask
use Rattle.agent_terms.specs.declared.request.ReplyOutcome.TheVariants as reply
use Rattle.coordinator_rules.specs.Navigation.{flags_in, may_navigate, Choice, Existing, New, Nothing, choice}
use Rattle.coordinator_rules.specs.NextTask.{next_task}
use Rattle.coordinator_rules.specs.Decision.{asking, Rules, Decision, decide, exchange, asker_of, by, one, navigation, made_or_null, opener_entry, open_chosen, is_live, is_address, effective_domain, domain_set, domain_decision, end_of, home_if_active, is_in_fragment, task_decision}
use Rattle.agent_laws.specs.Actors.{has_no_asker}
use Rattle.agent_laws.specs.Wellness.{IsWell}
use Rattle.agent_laws.proofs.Groups.Choices.{IsChoiceBelow, choice_below}
use Rattle.agent_laws.proofs.Groups.Well.{admitted_well}
use Rattle.agent_laws.proofs.Logs.Exchanges.{without_asker, decided_or_none}
use Rattle.link_fields.specs.Basic.{u16, optional}
use Rattle.link_wire.specs.Requests.{IsRequest}
use Rattle.exchange_laws.specs.Fit.{IsFitOutcome, IsFitLog}
use Rattle.exchange_laws.proofs.Fit.Parts.{some_fits, none_fits}
use Rattle.exchange_laws.proofs.Fit.Births.{born_fit}

Told : Decision → Type 0
Told d = IsFitOutcome d.outcome

told_if : (b : Bool) (c d : Decision) → IsFitOutcome c.outcome → IsFitOutcome d.outcome → IsFitOutcome (if b then c else d).outcome
told_if true c d h k = h
told_if false c d h k = k

done : IsFitOutcome reply.Done
done = (tt, refl, refl)

null : IsFitOutcome reply.Null
null = (tt, refl, refl)

made : (n : ℕ) → n < 2 ^ 32 → IsFitOutcome (reply.Made n)
made n few = (n, few, refl)

made_or_none : (noopener : Bool) (n : ℕ) → n < 2 ^ 32 → IsFitOutcome (made_or_null noopener n)
made_or_none true n few = null
made_or_none false n few = made n few

forbidden : IsFitOutcome (reply.Security 7)
forbidden = (7, (omega arith, refl), refl)

opened : (rules : Rules) (t : Tree) (f : ℕ → List ℕ → Bool) (r asker : ℕ) (url : Option (List ℕ)) (name : List ℕ) (noopener user : Bool) (c : Choice) → t.navs < 2 ^ 32 → IsChoiceBelow t.navs c
    → IsFitOutcome (open_chosen (asking rules t r asker noopener user) f url name c).outcome
opened rules t f r asker url name noopener user Nothing few h = null
opened rules t f r asker url name noopener user New few h = made_or_none noopener t.navs few
opened rules t f r asker None name noopener user (Existing n) few h = made_or_none noopener n (omega arith)
opened rules t f r asker (Some url) name noopener user (Existing n) few h =
    told_if (may_navigate t (nav_of t asker) n user)
    (record { entries = opener_entry t r asker noopener n ++ by r asker (navigation rules t (f n url) asker n url) ∷ []; outcome = made_or_null noopener n }) (one r asker Sync (reply.Security 7))
    (made_or_none noopener n (omega arith)) forbidden

twice : (a b : Bool) (c d e : Decision) → IsFitOutcome c.outcome → IsFitOutcome d.outcome → IsFitOutcome e.outcome → IsFitOutcome (if a then if b then c else d else e).outcome
twice true b c d e h k j = told_if b c d h k
twice false b c d e h k j = j

set_told : (rules : Rules) (t : Tree) (r asker : ℕ) (value : List ℕ) (o : Option (List ℕ)) → IsFitOutcome (domain_set rules t r asker value o).outcome
set_told rules t r asker value None = (10, (omega arith, refl), refl)
set_told rules t r asker value (Some effective) =
    told_if (fits value effective (is_address (origin_of t asker)) rules.suffixes) (one r asker (Domain asker value) reply.Done) (one r asker Sync (reply.Security 11)) done (11, (omega arith, refl), refl)

domain_told : (rules : Rules) (t : Tree) (r asker : ℕ) (value : List ℕ) → IsFitOutcome (domain_decision rules t r asker value).outcome
domain_told rules t r asker value =
    let o = effective_domain (origin_of t asker) (domain_of t asker) in
    told_if (has_domain (flags_in t (nav_of t asker))) (one r asker Sync (reply.Security 9)) (domain_set rules t r asker value o) (9, (omega arith, refl), refl) (set_told rules t r asker value o)

decided_told : (rules : Rules) (t : Tree) (f : ℕ → List ℕ → Bool) (r : ℕ) (q : Request) → t.navs < 2 ^ 32 → IsWell t → asker_of q < t.docs → IsFitOutcome (decide rules t f r q).outcome
unfolding decide
decided_told rules t f r ask.Next few well there = (tt, refl, refl)
decided_told rules t f r (ask.Frame asker name flags url) few well there = made t.navs few
decided_told rules t f r (ask.Open asker url name noopener user) few well there =
    opened rules t f r asker url name noopener user (choice t (nav_of t asker) name noopener user) few (choice_below t well (nav_of t asker) name noopener user (well.below asker there))
decided_told rules t f r (ask.Go asker doc url user) few well there = twice (is_live t asker doc) (may_navigate t (nav_of t asker) (nav_of t doc) user) (one r asker (navigation rules t (f (nav_of t doc) url) asker (nav_of t doc) url) reply.Done) (one r asker Sync (reply.Security 7)) (one r asker Sync reply.Done) done forbidden done
decided_told rules t f r (ask.Name asker doc name) few well there = twice (is_live t asker doc) (same_domain t asker doc) (one r asker (Name (nav_of t doc) name) reply.Done) (one r asker Sync (reply.Security 8)) (one r asker Sync reply.Done) done (8, (omega arith, refl), refl) done
decided_told rules t f r (ask.Disown asker doc) few well there = twice (is_live t asker doc) (same_domain t asker doc) (one r asker (Opener (nav_of t doc) None) reply.Done) (one r asker Sync (reply.Security 8)) (one r asker Sync reply.Done) done (8, (omega arith, refl), refl) done
decided_told rules t f r (ask.Domain asker value) few well there = domain_told rules t r asker (map to_ascii_lowercase value)
decided_told rules t f r _ few well there = done

-- NONE OF THESE

either_before : (b : Bool) (n end : ℕ) → end ≤ n → (if b then n else end) ≤ suc n
either_before true n end le = omega arith
either_before false n end le = omega arith

ended_before : (log : List Entry) (d : ℕ) → end_of log d ≤ length log
unfolding end_of
ended_before [] d = omega arith
ended_before (e ∷ older) d = either_before (is_active (tree_of older) d) (length older) (end_of older d) (ended_before older d)

asker_few : (q : Request) → IsRequest q → asker_of q < 2 ^ 32
asker_few ask.Next h = omega arith
asker_few (ask.Sync asker) h = let same : h.0.0 ≡ asker = cc in subst (λ (n : ℕ). n < 2 ^ 32) same h.0.1
asker_few (ask.Frame asker name flags url) h = let same : h.0.0.0 ≡ asker = cc in subst (λ (n : ℕ). n < 2 ^ 32) same h.0.1.0
asker_few (ask.Drop asker nav) h = let same : h.0.0.0 ≡ asker = cc in subst (λ (n : ℕ). n < 2 ^ 32) same h.0.1.0
asker_few (ask.Open asker url name noopener user) h = let same : h.0.0.0 ≡ asker = cc in subst (λ (n : ℕ). n < 2 ^ 32) same h.0.1.0
asker_few (ask.Link asker url name noopener user) h = let same : h.0.0.0 ≡ asker = cc in subst (λ (n : ℕ). n < 2 ^ 32) same h.0.1.0
asker_few (ask.Go asker doc url user) h = let same : h.0.0.0 ≡ asker = cc in subst (λ (n : ℕ). n < 2 ^ 32) same h.0.1.0
asker_few (ask.Name asker doc name) h = let same : h.0.0.0 ≡ asker = cc in subst (λ (n : ℕ). n < 2 ^ 32) same h.0.1.0
asker_few (ask.Disown asker doc) h = let same : h.0.0.0 ≡ asker = cc in subst (λ (n : ℕ). n < 2 ^ 32) same h.0.1.0
asker_few (ask.Close asker doc user) h = let same : h.0.0.0 ≡ asker = cc in subst (λ (n : ℕ). n < 2 ^ 32) same h.0.1.0
asker_few (ask.Post asker doc target body) h = let same : h.0.0.0 ≡ asker = cc in subst (λ (n : ℕ). n < 2 ^ 32) same h.0.1.0
asker_few (ask.Domain asker value) h = let same : h.0.0.0 ≡ asker = cc in subst (λ (n : ℕ). n < 2 ^ 32) same h.0.1.0
asker_few ask.More h = omega arith

home_told : (rules : Rules) (log : List Entry) (d : ℕ) → IsFitLog rules log → (optional u16).Fits (home_if_active (tree_of log) d)
home_told rules log d f = by_test ((tree_of log).doc d).been_active refl
  where
    by_test : (b : Bool) → ((tree_of log).doc d).been_active ≡ b → (optional u16).Fits (if b then Some (home_of (tree_of log) d) else None)
    by_test true e = some_fits u16 (home_of (tree_of log) d) (born_fit log d f.admitted f.fit f.short ((admitted_well log f.admitted).shown d e)).home
    by_test false e = none_fits u16

task_told : (r place : ℕ) (o : Option What) → place < 2 ^ 32 → IsFitOutcome (task_decision r place o).outcome
task_told r place None few = (tt, refl, refl)
task_told r place (Some w) few = (place, few, refl)

next_told : (rules : Rules) (log : List Entry) (r : ℕ) → IsFitLog rules log → Told (exchange rules log r ask.Next)
unfolding exchange Told
next_told rules log r f = task_told r (length log) (next_task log r) (let few : length log < 2 ^ 30 = f.short in omega arith)

pub outcome_fits : (rules : Rules) (log : List Entry) (r : ℕ) (q : Request) → IsFitLog rules log → IsRequest q → IsFitOutcome (exchange rules log r q).outcome
unfolding Told
outcome_fits rules log r q f is = by_kind (has_no_asker q) refl
  where
    short : length log < 2 ^ 30
    short = f.short

    by_kind : (b : Bool) → has_no_asker q ≡ b → IsFitOutcome (exchange rules log r q).outcome
    by_kind true e = without_asker Told rules log r q e (next_told rules log r f) done
    by_kind false e =
        decided_or_none Told rules log r q e ((asker_of q, home_if_active (tree_of log) (asker_of q)), (asker_few q is, home_told rules log (asker_of q) f), refl)
        (end_of log (asker_of q), let le = ended_before log (asker_of q) in omega arith, refl)
        (λ been home active. decided_told rules (tree_of log) (is_in_fragment (tree_of log) (url_of log)) r q (omega (arith, (few_of log).navs)) (admitted_well log f.admitted) ((admitted_well log f.admitted).shown (asker_of q) been))
