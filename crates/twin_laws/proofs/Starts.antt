-- Alike sessions start with twin logs.
use Rattle.std.proofs.Common.{◌≡◌, ℕ, ◌+◌, List, [], ◌∷◌, Some, None, Bool, true, false, refl, ap, subst, ◌∙◌, inl, inr}
use Rattle.std.specs.Prelude.{◌⊎◌, ◌==◌}
use Rattle.origin_core.specs.declared.origin.Origin.{Origin}
use Rattle.origin_core.specs.Origin.{start_origin}
use Rattle.origin_core.specs.Site.{site_of}
use Rattle.tree_log.specs.declared.entry.Entry.{Entry}
use Rattle.tree_log.specs.declared.entry.What.TheVariants.{Open}
use Rattle.tree_log.specs.Facts.{Birth}
use Rattle.tree_log.specs.Tree.{Tree, tree_of, tree_after, tree_of_step, home_of}
use Rattle.tree_log.specs.Homes.{home_for}
use Rattle.tree_log.specs.Blanking.{is_homed}
use Rattle.agent_terms.specs.declared.session.Session.{Session}
use Rattle.single_agent.specs.Session.{start_load, start_entry, started, starts_of}
use Rattle.coordinator_rules.specs.Decision.{Rules, rules_of}
use Rattle.twin_laws.specs.Twins.{IsTwin, TwinLogs}
use Rattle.twin_laws.specs.Alike.{AreAlikeStarts}
use Rattle.twin_laws.specs.Worlds.{Event, AreAlike, replies}
use Rattle.agent_laws.proofs.Logs.Entries.{entry, at_next}
use Rattle.twin_laws.proofs.Twins.{same_twin, tree_of-twin}
use Rattle.twin_laws.proofs.Worlds.{replies-alike}
use Rattle.twin_laws.proofs.HomesStay.{starts_stay}

-- a start window by the origin of what it loads, where the home follows from that
abbrev start_at : Tree → (Origin → ℕ) → Origin → List ℕ → Entry
start_at t h o url =
    entry None None (Open t.navs t.docs t.groups (h o) (start_origin t.docs) [] None 0 None (Some (record { doc = t.docs + 1; home = h o; origin = o; url = url })))

start_home : (t : Tree) (h : Origin → ℕ) (o : Origin) (url : List ℕ) → home_of (tree_after t (start_at t h o url)) (t.docs + 1) ≡ h o
unfolding tree_after
start_home t h o url =
    ap (λ (b : Birth). b.home)
    (at_next t.docs (record { nav = t.navs; origin = start_origin t.docs; home = h o; loaded = false }) (record { nav = t.navs; origin = o; home = h o; loaded = true }) (t.doc (t.docs + 1)).born)

start_twin : (kept : ℕ → Bool) (t : Tree) (h : Origin → ℕ) (o p : Origin) (url other : List ℕ) → kept (t.docs + 1) ≡ false → o ≡ p → IsTwin kept (start_at t h o url) (start_at t h p other)
start_twin kept t h o p url other k e = subst (λ (z : Origin). IsTwin kept (start_at t h o url) (start_at t h z other)) e (record { same_bare = refl; same_blank = rw k refl })

home_by : Rules → Tree → Origin → ℕ
home_by rules t o = home_for rules.renderers rules.suffixes t t.groups (site_of o rules.suffixes)

start_pair : (rules : Rules) (r : ℕ) (log : List Entry) (url other : List ℕ)
    → (url ≡ other) ⊎ (((start_load rules (tree_of log) url).origin ≡ (start_load rules (tree_of log) other).origin) × (((start_load rules (tree_of log) url).home == r) ≡ false))
    → IsTwin (is_homed (tree_of (start_entry rules (tree_of log) url ∷ log)) r) (start_entry rules (tree_of log) url) (start_entry rules (tree_of log) other)
unfolding home_by
start_pair rules r log url other (inl e) =
    let kept : ℕ → Bool = is_homed (tree_of (start_entry rules (tree_of log) url ∷ log)) r in
    subst (λ (z : List ℕ). IsTwin kept (start_entry rules (tree_of log) url) (start_entry rules (tree_of log) z)) e (same_twin kept (start_entry rules (tree_of log) url))
start_pair rules r log url other (inr h) =
    let t : Tree = tree_of log in
    let e : Entry = start_entry rules t url in
    let o : Origin = (start_load rules t url).origin in
    let k : is_homed (tree_of (e ∷ log)) r (t.docs + 1) ≡ false =
    ap (λ (s : Tree). is_homed s r (t.docs + 1)) (tree_of_step e log) ∙ ap (λ (n : ℕ). n == r) (start_home t (home_by rules t) o url) ∙ h.1 in
    start_twin (is_homed (tree_of (e ∷ log)) r) t (home_by rules t) o (start_load rules t other).origin url other k h.0

started_twin : (rules : Rules) (r : ℕ) (left right : List Entry) (urls others : List (List ℕ)) → TwinLogs r left right → AreAlikeStarts rules r left urls others → TwinLogs r (started rules left urls) (started rules right others)
started_twin rules r left right [] [] twins h = twins
started_twin rules r left right (url ∷ urls) (other ∷ others) twins h =
    let a : Entry = start_entry rules (tree_of left) url in
    let b : Entry = start_entry rules (tree_of left) other in
    let same : b ≡ start_entry rules (tree_of right) other = ap (λ (t : Tree). start_entry rules t other) (tree_of-twin r left right twins) in
    let pair : IsTwin (is_homed (tree_of (a ∷ left)) r) a (start_entry rules (tree_of right) other) =
    subst (IsTwin (is_homed (tree_of (a ∷ left)) r) a) same (start_pair rules r left url other h.0) in
    started_twin rules r (a ∷ left) (start_entry rules (tree_of right) other ∷ right) urls others (pair, twins) h.1
started_twin rules r left right [] (other ∷ others) twins h = absurd h
started_twin rules r left right (url ∷ urls) [] twins h = absurd h

-- alike sessions start with twin logs
pub starts_twin : (s other : Session) (r : ℕ) → rules_of s ≡ rules_of other → AreAlikeStarts (rules_of s) r [] s.start other.start → TwinLogs r (starts_of s) (starts_of other)
unfolding starts_of
starts_twin s other r same h =
    subst (λ (rules : Rules). TwinLogs r (started (rules_of s) [] s.start) (started rules [] other.start)) same (started_twin (rules_of s) r [] [] s.start other.start tt h)

-- two sessions that a renderer can't tell apart
pub sessions_alike : (s other : Session) (r : ℕ) (events others : List Event) → rules_of s ≡ rules_of other → AreAlikeStarts (rules_of s) r [] s.start other.start
    → AreAlike (rules_of s) r events others (starts_of s) (starts_of other)
    → replies (rules_of s) r events (record { log = starts_of s; heard = 0 }) ≡ replies (rules_of other) r others (record { log = starts_of other; heard = 0 })
sessions_alike s other r events others same starts alike =
    replies-alike (rules_of s) r events others (starts_of s) (starts_of other) 0 alike (starts_twin s other r same starts) (starts_stay s)
    ∙ ap (λ (rules : Rules). replies rules r others (record { log = starts_of other; heard = 0 })) same
