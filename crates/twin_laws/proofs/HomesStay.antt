-- Exchanges add messages for documents that are there alone, and give no document that is there another home.
use Rattle.std.proofs.Common.{◌≡◌, ℕ, ◌+◌, ◌<◌, List, [], ◌∷◌, ◌++◌, length, Option, Some, None, Bool, true, false, refl, ap, ◌∙◌, ◌&&◌, ◌||◌, if◌then◌else◌, arith}
use Rattle.std.specs.Prelude.{◌==◌, nat_lt, is_none, map, unwrap_or}
use Rattle.std.specs.Char.{to_ascii_lowercase}
use Rattle.std.specs.Option.{option_or}
use Rattle.origin_core.specs.Flags.{union}
use Rattle.origin_core.specs.Origin.{page_origin}
use Rattle.tree_log.specs.declared.entry.Entry.{Entry}
use Rattle.tree_log.specs.declared.entry.Load.{Load}
use Rattle.tree_log.specs.declared.entry.What.{What}
use Rattle.tree_log.specs.declared.entry.What.TheVariants as what
use Rattle.tree_log.specs.Facts.{Birth, bears, bears_load}
use Rattle.tree_log.specs.Tree.{Tree, tree_of, tree_after, tree_of_step, nav_of, home_of, origin_of, children_of, same_group, same_domain}
use Rattle.tree_log.specs.Admits.{admits, has, AreAdmitted}
use Rattle.tree_log.proofs.Admitted.{both, lt_of, born_stays, what_admitted}
use Rattle.agent_terms.specs.declared.session.Session.{Session}
use Rattle.agent_terms.specs.declared.request.Request.{Request}
use Rattle.agent_terms.specs.declared.request.Request.TheVariants as ask
use Rattle.agent_terms.specs.declared.request.ReplyOutcome.TheVariants as reply
use Rattle.single_agent.specs.LegalLog.{lost_entry}
use Rattle.single_agent.specs.Session.{starts_of, started, start_entry}
use Rattle.coordinator_rules.specs.NextTask.{next_task}
use Rattle.coordinator_rules.specs.Navigation.{flags_in, is_in, may_navigate, may_close, Choice, Existing, New, Nothing, choice}
use Rattle.coordinator_rules.specs.Decision.{asking, Rules, rules_of, Decision, decide, exchange, by, one, group_in, load_for, frame_load, frame_entry, navigation, window_load, new_window, made_or_null, opener_entry, or_sync, open_chosen, link_chosen, if_open, is_live, is_near, task_decision}
use Rattle.agent_laws.specs.Actors.{has_no_asker}
use Rattle.twin_laws.specs.Twins.{IsForThere, KeepsHomes, HomesStay}
use Rattle.agent_laws.proofs.Logs.Exchanges.{without_asker, decided_or_none, domain_cases}
use Rattle.agent_laws.proofs.Logs.Older.{at_other}
use Rattle.agent_laws.proofs.Logs.Admitted.{IsTask, Commits, Fires, Lapses, Closes, next_is_task}

-- ONE ENTRY

-- a message is for a document that is there, and no document that is there is made
record Stays (t : Tree) (w : What) : Type 0 where
  there : IsForThere t w
  none_made : (d : ℕ) → d < t.docs → bears d w ≡ None

home_after : (t : Tree) (e : Entry) (d : ℕ) → home_of (tree_after t e) d ≡ (unwrap_or (bears d e.what) (t.doc d).born).home
unfolding tree_after
home_after t e d = refl

keeps : (log : List Entry) (e : Entry) → Stays (tree_of log) e.what → KeepsHomes (tree_of log) (tree_of (e ∷ log))
keeps log e s d lt =
    ap (λ (t : Tree). home_of t d) (tree_of_step e log) ∙ home_after (tree_of log) e d ∙ ap (λ (b : Option Birth). (unwrap_or b ((tree_of log).doc d).born).home) (s.none_made d lt)

one_stays : (log : List Entry) (e : Entry) → Stays (tree_of log) e.what → HomesStay log → HomesStay (e ∷ log)
one_stays log e s h = (s.there, keeps log e s, h)

abbrev AllStay : List Entry → List Entry → Type 0
AllStay log [] = Unit {0}
AllStay log (e ∷ es) = Stays (tree_of (es ++ log)) e.what × AllStay log es

all_stay : (log es : List Entry) → AllStay log es → HomesStay log → HomesStay (es ++ log)
all_stay log [] s h = h
all_stay log (e ∷ es) s h = one_stays (es ++ log) e s.0 (all_stay log es s.1 h)

-- WHAT IS MADE

-- what is said of a document and of its load
either_none : {A : Type 0} (a b : Option A) → a ≡ None → b ≡ None → option_or a b ≡ None
either_none {A} a b h k = rw h k

abbrev IsLoadOf : ℕ → Option Load → Type 0
IsLoadOf doc None = Unit {0}
IsLoadOf doc (Some load) = load.doc ≡ doc

load_new : (docs nav d : ℕ) (load : Option Load) → IsLoadOf (docs + 1) load → d < docs → bears_load d nav load ≡ None
load_new docs nav d None h lt = refl
load_new docs nav d (Some load) h lt = at_other d load.doc (record { nav = nav; origin = load.origin; home = load.home; loaded = true }) (omega arith)

frame_load_of : (rules : Rules) (t : Tree) (asker flags : ℕ) (url : Option (List ℕ)) → IsLoadOf (t.docs + 1) (frame_load rules t asker flags url)
frame_load_of rules t asker flags None = tt
frame_load_of rules t asker flags (Some url) = if_loads (is_none (page_origin url))
  where
    if_loads : (b : Bool) → IsLoadOf (t.docs + 1) (if b then None else Some (load_for rules t (group_in t (nav_of t asker)) flags (t.docs + 1) asker url))
    if_loads true = tt
    if_loads false = refl

window_load_of : (rules : Rules) (t : Tree) (asker group flags : ℕ) (url : Option (List ℕ)) → IsLoadOf (t.docs + 1) (window_load rules t asker group flags url)
window_load_of rules t asker group flags None = tt
window_load_of rules t asker group flags (Some url) = refl

frame_stays : (rules : Rules) (t : Tree) (asker : ℕ) (name : List ℕ) (flags : ℕ) (url : Option (List ℕ)) → Stays t (frame_entry rules t asker name flags url)
frame_stays rules t asker name flags url =
    record { there = tt; none_made = λ d lt. either_none _ _ (at_other d t.docs _ lt) (load_new t.docs t.navs d (frame_load rules t asker flags url) (frame_load_of rules t asker flags url) lt) }

window_stays : (rules : Rules) (t : Tree) (asker : ℕ) (name : List ℕ) (noopener : Bool) (url : Option (List ℕ)) → Stays t (new_window rules t asker name noopener url)
window_stays rules t asker name noopener url =
    record { there = tt; none_made = λ d lt. either_none _ _ (at_other d t.docs _ lt) (load_new t.docs t.navs d (window_load rules t asker _ _ url) (window_load_of rules t asker _ _ url) lt) }

navigation_stays : (rules : Rules) (t : Tree) (fragment : Bool) (asker n : ℕ) (url : List ℕ) → Stays t (navigation rules t fragment asker n url)
navigation_stays rules t true asker n url = record { there = tt; none_made = λ d lt. refl }
navigation_stays rules t false asker n url = record { there = tt; none_made = λ d lt. at_other d t.docs _ lt }

start_stays : (rules : Rules) (t : Tree) (url : List ℕ) → Stays t (start_entry rules t url).what
start_stays rules t url = record { there = tt; none_made = λ d lt. either_none _ _ (at_other d t.docs _ lt) (at_other d (t.docs + 1) _ (omega arith)) }

-- DECISIONS

DecidesSo : List Entry → Decision → Type 0
DecidesSo log d = AllStay log d.entries

decides_if : (log : List Entry) (b : Bool) (c d : Decision) → AllStay log c.entries → AllStay log d.entries → AllStay log (if b then c else d).entries
decides_if log true c d h k = h
decides_if log false c d h k = k

stays_if : (t : Tree) (b : Bool) (v w : What) → Stays t v → Stays t w → Stays t (if b then v else w)
stays_if t true v w h k = h
stays_if t false v w h k = k

sync_stays : (t : Tree) → Stays t what.Sync
sync_stays t = record { there = tt; none_made = λ d lt. refl }

opener_stays : (t : Tree) (n : ℕ) (to : Option ℕ) → Stays t (what.Opener n to)
opener_stays t n to = record { there = tt; none_made = λ d lt. refl }

front_stays : (log : List Entry) (r asker n : ℕ) (b : Bool) (w : What) → Stays (tree_of log) w → AllStay log ((if b then [] else by r asker (what.Opener n (Some (nav_of (tree_of log) asker))) ∷ []) ++ by r asker w ∷ [])
front_stays log r asker n true w s = (s, tt)
front_stays log r asker n false w s = (opener_stays _ n _, (s, tt))

synced_stays : (log : List Entry) (r asker n : ℕ) (b : Bool) → AllStay log (or_sync r asker (if b then [] else by r asker (what.Opener n (Some (nav_of (tree_of log) asker))) ∷ []))
synced_stays log r asker n true = (sync_stays _, tt)
synced_stays log r asker n false = (opener_stays _ n _, tt)

chosen_stays : (rules : Rules) (log : List Entry) (fragment : ℕ → List ℕ → Bool) (r asker : ℕ) (url : Option (List ℕ)) (name : List ℕ) (noopener user : Bool) (c : Choice)
    → AllStay log (open_chosen (asking rules (tree_of log) r asker noopener user) fragment url name c).entries
chosen_stays rules log fragment r asker url name noopener user Nothing = (sync_stays _, tt)
chosen_stays rules log fragment r asker url name noopener user New = (window_stays rules (tree_of log) asker name noopener url, tt)
chosen_stays rules log fragment r asker None name noopener user (Existing n) = synced_stays log r asker n (noopener || n == nav_of (tree_of log) asker)
chosen_stays rules log fragment r asker (Some url) name noopener user (Existing n) =
    let t : Tree = tree_of log in
    decides_if log (may_navigate t (nav_of t asker) n user)
    (record { entries = opener_entry t r asker noopener n ++ by r asker (navigation rules t (fragment n url) asker n url) ∷ []; outcome = made_or_null noopener n }) (one r asker what.Sync (reply.Security 7))
    (front_stays log r asker n (noopener || n == nav_of t asker) (navigation rules t (fragment n url) asker n url) (navigation_stays rules t (fragment n url) asker n url)) (sync_stays _, tt)

link_stays : (rules : Rules) (t : Tree) (r : ℕ) (fragment : ℕ → List ℕ → Bool) (asker : ℕ) (url name : List ℕ) (noopener user : Bool) (c : Choice) → Stays t (link_chosen (asking rules t r asker noopener user) fragment url name c)
link_stays rules t r fragment asker url name noopener user Nothing = sync_stays t
link_stays rules t r fragment asker url name noopener user New = window_stays rules t asker name noopener (Some url)
link_stays rules t r fragment asker url name noopener user (Existing n) =
    stays_if t (may_navigate t (nav_of t asker) n user) (navigation rules t (fragment n url) asker n url) what.Sync (navigation_stays rules t (fragment n url) asker n url) (sync_stays t)

open_stays : (log : List Entry) (r asker doc : ℕ) (w : What) → Stays (tree_of log) w → AllStay log (if_open (tree_of log) r asker doc w).entries
open_stays log r asker doc w s =
    let t : Tree = tree_of log in
    decides_if log (is_live t asker doc) (if same_domain t asker doc then one r asker w reply.Done else one r asker what.Sync (reply.Security 8)) (one r asker what.Sync reply.Done)
    (decides_if log (same_domain t asker doc) (one r asker w reply.Done) (one r asker what.Sync (reply.Security 8)) (s, tt) (sync_stays t, tt)) (sync_stays t, tt)

decide_stays : (rules : Rules) (log : List Entry) (fragment : ℕ → List ℕ → Bool) (r : ℕ) (q : Request) → AllStay log (decide rules (tree_of log) fragment r q).entries
unfolding decide DecidesSo
decide_stays rules log fragment r ask.Next = tt
decide_stays rules log fragment r (ask.Sync asker) = (sync_stays _, tt)
decide_stays rules log fragment r (ask.Frame asker name flags url) = (frame_stays rules (tree_of log) asker name (union flags (flags_in (tree_of log) (nav_of (tree_of log) asker))) url, tt)
decide_stays rules log fragment r (ask.Drop asker nav) =
    (stays_if (tree_of log) (is_in nav (children_of (tree_of log) asker)) (what.Drop nav) what.Sync (record { there = tt; none_made = λ d lt. refl }) (sync_stays (tree_of log)), tt)
decide_stays rules log fragment r (ask.Open asker url name noopener user) =
    chosen_stays rules log fragment r asker url name noopener user (choice (tree_of log) (nav_of (tree_of log) asker) name noopener user)
decide_stays rules log fragment r (ask.Link asker url name noopener user) =
    (link_stays rules (tree_of log) r fragment asker url name noopener user (choice (tree_of log) (nav_of (tree_of log) asker) name noopener user), tt)
decide_stays rules log fragment r (ask.Go asker doc url user) =
    let t : Tree = tree_of log in
    decides_if log (is_live t asker doc) (if may_navigate t (nav_of t asker) (nav_of t doc) user then one r asker (navigation rules t (fragment (nav_of t doc) url) asker (nav_of t doc) url) reply.Done else one r asker what.Sync (reply.Security 7)) (one r asker what.Sync reply.Done)
    (decides_if log (may_navigate t (nav_of t asker) (nav_of t doc) user) (one r asker (navigation rules t (fragment (nav_of t doc) url) asker (nav_of t doc) url) reply.Done) (one r asker what.Sync (reply.Security 7))
    (navigation_stays rules t (fragment (nav_of t doc) url) asker (nav_of t doc) url, tt) (sync_stays t, tt))
    (sync_stays t, tt)
decide_stays rules log fragment r (ask.Name asker doc name) = open_stays log r asker doc (what.Name (nav_of (tree_of log) doc) name) (record { there = tt; none_made = λ d lt. refl })
decide_stays rules log fragment r (ask.Disown asker doc) = open_stays log r asker doc (what.Opener (nav_of (tree_of log) doc) None) (opener_stays _ _ _)
decide_stays rules log fragment r (ask.Close asker doc user) =
    let t : Tree = tree_of log in (
      stays_if t (is_live t asker doc && may_close t (nav_of t asker) (nav_of t doc) user) (what.Closing (nav_of t doc)) what.Sync (record { there = tt; none_made = λ d lt. refl }) (sync_stays t),
      tt,
    )
decide_stays rules log fragment r (ask.Post asker doc target body) = (posted (is_near t asker doc) refl, tt)
  where
    t : Tree
    t = tree_of log

    posted : (b : Bool) → is_near t asker doc ≡ b → Stays t (if b then what.Post doc (nav_of t asker) (origin_of t asker) target body else what.Sync)
    posted true e = record { there = lt_of doc t.docs (both (nat_lt doc t.docs) (same_group t (nav_of t asker) (nav_of t doc)) e).0; none_made = λ d lt. refl }
    posted false e = sync_stays t
decide_stays rules log fragment r (ask.Domain asker value) =
    domain_cases (DecidesSo log) rules (tree_of log) r asker (map to_ascii_lowercase value) (λ n. (sync_stays (tree_of log), tt))
    (λ effective is fits. (record { there = tt; none_made = λ d lt. refl }, tt))
decide_stays rules log fragment r ask.More = tt

-- EXCHANGES

task_stays : (t : Tree) (w : What) → IsTask w → Stays t w
task_stays t w (Commits nav doc begin) = record { there = tt; none_made = λ d lt. refl }
task_stays t w (Fires doc post) = record { there = tt; none_made = λ d lt. refl }
task_stays t w (Lapses doc post cause) = record { there = tt; none_made = λ d lt. refl }
task_stays t w (Closes nav) = record { there = tt; none_made = λ d lt. refl }

taken_stays : (log : List Entry) (r place : ℕ) (o : Option What) → ((w : What) → o ≡ Some w → IsTask w) → AllStay log (task_decision r place o).entries
taken_stays log r place None h = tt
taken_stays log r place (Some w) h = (task_stays (tree_of log) w (h w refl), tt)

next_stays : (rules : Rules) (log : List Entry) (r : ℕ) → AllStay log (exchange rules log r ask.Next).entries
unfolding exchange
next_stays rules log r = taken_stays log r (length log) (next_task log r) (next_is_task log r)

request_stays : (rules : Rules) (log : List Entry) (r : ℕ) (q : Request) → has_no_asker q ≡ false → DecidesSo log (exchange rules log r q)
unfolding DecidesSo
request_stays rules log r q other = decided_or_none (DecidesSo log) rules log r q other tt tt (λ been home active. decide_stays rules log _ r q)

entries_stay : (rules : Rules) (log : List Entry) (r : ℕ) (q : Request) → AllStay log (exchange rules log r q).entries
unfolding DecidesSo
entries_stay rules log r q = by_kind (has_no_asker q) refl
  where
    by_kind : (b : Bool) → has_no_asker q ≡ b → AllStay log (exchange rules log r q).entries
    by_kind true e = without_asker (DecidesSo log) rules log r q e (next_stays rules log r) tt
    by_kind false e = request_stays rules log r q e

-- whatever is asked, homes stay
pub exchange_stays : (rules : Rules) (log : List Entry) (r : ℕ) (q : Request) → HomesStay log → HomesStay ((exchange rules log r q).entries ++ log)
exchange_stays rules log r q h = all_stay log (exchange rules log r q).entries (entries_stay rules log r q) h

pub loss_stays : (log : List Entry) (r : ℕ) → HomesStay log → HomesStay (lost_entry r ∷ log)
loss_stays log r h = one_stays log (lost_entry r) (record { there = tt; none_made = λ d lt. refl }) h

started_stay : (rules : Rules) (log : List Entry) (urls : List (List ℕ)) → HomesStay log → HomesStay (started rules log urls)
started_stay rules log [] h = h
started_stay rules log (url ∷ urls) h = started_stay rules (start_entry rules (tree_of log) url ∷ log) urls (one_stays log (start_entry rules (tree_of log) url) (start_stays rules (tree_of log) url) h)

pub starts_stay : (s : Session) → HomesStay (starts_of s)
unfolding starts_of
starts_stay s = started_stay (rules_of s) [] s.start tt

-- ADMITTED LOGS

message_there : (t : Tree) (by actor : Option ℕ) (w : What) → admits t (record { by = by; actor = actor; what = w }) ≡ true → IsForThere t w
message_there t by actor (what.Post to from origin target body) h =
    lt_of to t.docs (both _ (has t.docs to) (both _ (has t.navs from) (what_admitted t (record { by = by; actor = actor; what = what.Post to from origin target body }) h)).0).1
message_there t by actor w h = tt

pub admitted_stays : (log : List Entry) → AreAdmitted log → HomesStay log
admitted_stays [] all = tt
admitted_stays (e ∷ older) all =
    (message_there (tree_of older) e.by e.actor e.what all.0, λ d lt. ap (λ (t : Tree). home_of t d) (tree_of_step e older) ∙ ap (λ (b : Birth). b.home) (born_stays (tree_of older) e d all.0 lt), admitted_stays older all.1)
