-- In a legal log a document that wasn't loaded has the URL `about:blank`, whatever its fragment.
use Rattle.std.proofs.Common.{◌≡◌, ℕ, ◌+◌, ◌<◌, ◌^◌, List, [], ◌∷◌, ◌++◌, length, codes, Option, Some, None, Bool, true, false, refl, ap, ◌∙◌, sym, subst, ◌&&◌, ◌||◌, if◌then◌else◌, arith, inl, inr}
use Rattle.std.specs.Prelude.{◌⊎◌, ◌==◌, map, nat_le, is_some, unwrap_or}
use Rattle.std.specs.Char.{to_ascii_lowercase}
use Rattle.std.proofs.lemmas.Slice.Eq.{bytes_eq-Decides}
use Rattle.url.proofs.OnLiterals.{url_on_literals}
use Rattle.origin_core.specs.Page.{without_fragment, fragment_of, is_same_but_fragment}
use Rattle.tree_log.specs.declared.entry.Entry.{Entry}
use Rattle.tree_log.specs.declared.entry.What.{What}
use Rattle.tree_log.specs.declared.entry.What.TheVariants as what
use Rattle.tree_log.specs.Log.{prefix}
use Rattle.tree_log.specs.Tree.{Tree, tree_of, tree_after, tree_of_step, nav_of, origin_of, children_of, same_domain}
use Rattle.tree_log.specs.Urls.{gives_url, url_of, urls_after, url_of_step}
use Rattle.tree_log.specs.Admits.{admits, AreAdmitted}
use Rattle.tree_log.proofs.Admitted.{both}
use Rattle.agent_terms.specs.declared.session.Session.{Session}
use Rattle.agent_terms.specs.declared.request.Request.{Request}
use Rattle.agent_terms.specs.declared.request.Request.TheVariants as ask
use Rattle.agent_terms.specs.declared.request.ReplyOutcome.TheVariants as reply
use Rattle.single_agent.specs.LegalLog.{lost_entry, IsLegalLog, Started, Exchanged, Gave_up}
use Rattle.single_agent.specs.Session.{starts_of, started, start_entry}
use Rattle.coordinator_rules.specs.NextTask.{next_task}
use Rattle.coordinator_rules.specs.Navigation.{may_navigate, may_close, is_in, Choice, Existing, New, Nothing, choice}
use Rattle.coordinator_rules.specs.Decision.{asking, domain_decision, Rules, rules_of, Decision, decide, exchange, by, one, navigation, made_or_null, opener_entry, or_sync, open_chosen, link_chosen, is_live, is_near, is_in_fragment, task_decision}
use Rattle.agent_laws.specs.Actors.{has_no_asker}
use Rattle.agent_laws.proofs.Logs.Exchanges.{without_asker, decided_or_none, domain_cases}
use Rattle.agent_laws.proofs.Logs.Entries.{entry, at_cases}
use Rattle.agent_laws.proofs.Logs.Admitted.{IsTask, Commits, Fires, Lapses, Closes, next_is_task, start_fits, started_length, exchange_admitted, longer, legal_admitted}
use Rattle.log_laws.proofs.Plays.Commits.{WasLoaded, loaded_later, loads_now}

-- `about:blank`, whatever its fragment
abbrev pub IsBlank : List ℕ → Type 0
IsBlank url = without_fragment url ≡ codes "about:blank"

blank_itself : IsBlank (codes "about:blank")
unfolding url_on_literals
blank_itself = refl

-- the document was loaded, or its URL is `about:blank`
abbrev pub IsLoadedOrBlank : Tree → (ℕ → List ℕ) → ℕ → Type 0
IsLoadedOrBlank t urls d = WasLoaded t d ⊎ IsBlank (urls d)

-- so it was once each entry stood
abbrev pub AllLoadedOrBlank : List Entry → Type 0
AllLoadedOrBlank [] = (d : ℕ) → IsLoadedOrBlank (tree_of []) (url_of []) d
AllLoadedOrBlank (e ∷ older) = ((d : ℕ) → IsLoadedOrBlank (tree_of (e ∷ older)) (url_of (e ∷ older)) d) × AllLoadedOrBlank older

now : (log : List Entry) → AllLoadedOrBlank log → (d : ℕ) → IsLoadedOrBlank (tree_of log) (url_of log) d
now [] all = all
now (e ∷ older) all = all.0

pub blank_before : (k : ℕ) (log : List Entry) → AllLoadedOrBlank log → (d : ℕ) → IsLoadedOrBlank (tree_of (prefix k log)) (url_of (prefix k log)) d
unfolding prefix
blank_before k [] all = all
blank_before k (e ∷ older) all = by_test (nat_le k (length older)) (blank_before k older all.1)
  where
    by_test : (b : Bool) → ((d : ℕ) → IsLoadedOrBlank (tree_of (prefix k older)) (url_of (prefix k older)) d)
        → (d : ℕ) → IsLoadedOrBlank (tree_of (if b then prefix k older else e ∷ older)) (url_of (if b then prefix k older else e ∷ older)) d
    by_test true before = before
    by_test false before = all.0

-- ONE ENTRY

-- a fragment navigation changes the fragment alone
abbrev IsFragmentOf : (ℕ → List ℕ) → What → Type 0
IsFragmentOf urls (what.Fragment nav doc url) = without_fragment url ≡ without_fragment (urls doc)
IsFragmentOf urls w = Unit {0}

abbrev After : Tree → (ℕ → List ℕ) → Entry → ℕ → Type 0
After t urls e d = WasLoaded (tree_after t e) d ⊎ IsBlank (unwrap_or (gives_url d e.what) (urls d))

-- where the entry gives the document no URL
kept : (t : Tree) (urls : ℕ → List ℕ) (e : Entry) (d : ℕ) → admits t e ≡ true → IsLoadedOrBlank t urls d → WasLoaded (tree_after t e) d ⊎ IsBlank (urls d)
kept t urls e d h (inl l) = inl (loaded_later t e d h l)
kept t urls e d h (inr b) = inr b

what_gives : (t : Tree) (urls : ℕ → List ℕ) (b a : Option ℕ) (w : What) (d : ℕ) → admits t (entry b a w) ≡ true → IsFragmentOf urls w → IsLoadedOrBlank t urls d → After t urls (entry b a w) d
what_gives t urls b a (what.Open nav doc group home origin name opener flags navigator None) d h f k = kept t urls (entry b a (what.Open nav doc group home origin name opener flags navigator None)) d h k
what_gives t urls b a (what.Open nav doc group home origin name opener flags navigator (Some load)) d h f k =
    let e : Entry = entry b a (what.Open nav doc group home origin name opener flags navigator (Some load)) in
    at_cases (λ (u : List ℕ). WasLoaded (tree_after t e) d ⊎ IsBlank u) d load.doc load.url (urls d)
    (λ same. inl (subst (WasLoaded (tree_after t e)) same (loads_now t b a (what.Open nav doc group home origin name opener flags navigator (Some load)) h))) (λ other. kept t urls e d h k)
what_gives t urls b a (what.Frame nav doc home origin name flags None) d h f k = kept t urls (entry b a (what.Frame nav doc home origin name flags None)) d h k
what_gives t urls b a (what.Frame nav doc home origin name flags (Some load)) d h f k =
    let e : Entry = entry b a (what.Frame nav doc home origin name flags (Some load)) in
    at_cases (λ (u : List ℕ). WasLoaded (tree_after t e) d ⊎ IsBlank u) d load.doc load.url (urls d)
    (λ same. inl (subst (WasLoaded (tree_after t e)) same (loads_now t b a (what.Frame nav doc home origin name flags (Some load)) h))) (λ other. kept t urls e d h k)
what_gives t urls b a (what.Begin nav load) d h f k =
    let e : Entry = entry b a (what.Begin nav load) in
    at_cases (λ (u : List ℕ). WasLoaded (tree_after t e) d ⊎ IsBlank u) d load.doc load.url (urls d)
    (λ same. inl (subst (WasLoaded (tree_after t e)) same (loads_now t b a (what.Begin nav load) h))) (λ other. kept t urls e d h k)
what_gives t urls b a (what.Fragment nav doc url) d h f k =
    let e : Entry = entry b a (what.Fragment nav doc url) in
    at_cases (λ (u : List ℕ). WasLoaded (tree_after t e) d ⊎ IsBlank u) d doc url (urls d) (λ same. changed same k) (λ other. kept t urls e d h k)
  where
    changed : doc ≡ d → IsLoadedOrBlank t urls d → WasLoaded (tree_after t (entry b a (what.Fragment nav doc url))) d ⊎ IsBlank url
    changed same (inl l) = inl (loaded_later t (entry b a (what.Fragment nav doc url)) d h l)
    changed same (inr blank) = inr (f ∙ ap (λ (n : ℕ). without_fragment (urls n)) same ∙ blank)
what_gives t urls b a w d h f k = kept t urls (entry b a w) d h k

urls_at_step : (urls : ℕ → List ℕ) (e : Entry) (d : ℕ) → urls_after urls e d ≡ unwrap_or (gives_url d e.what) (urls d)
unfolding urls_after
urls_at_step urls e d = refl

one_more : (log : List Entry) (e : Entry) → admits (tree_of log) e ≡ true → IsFragmentOf (url_of log) e.what → AllLoadedOrBlank log → AllLoadedOrBlank (e ∷ log)
one_more log e h f all = (
  λ d.
      subst (λ (t : Tree). WasLoaded t d ⊎ IsBlank (url_of (e ∷ log) d)) (sym (tree_of_step e log))
      (subst (λ (u : List ℕ). WasLoaded (tree_after (tree_of log) e) d ⊎ IsBlank u) (sym (ap (λ (urls : ℕ → List ℕ). urls d) (url_of_step e log) ∙ urls_at_step (url_of log) e d))
      (what_gives (tree_of log) (url_of log) e.by e.actor e.what d h f (now log all d))),
  all,
)

-- each entry is so, on the log before it
abbrev AreFragmentsOf : List Entry → List Entry → Type 0
AreFragmentsOf log [] = Unit {0}
AreFragmentsOf log (e ∷ es) = IsFragmentOf (url_of (es ++ log)) e.what × AreFragmentsOf log es

more : (log es : List Entry) → AreAdmitted (es ++ log) → AreFragmentsOf log es → AllLoadedOrBlank log → AllLoadedOrBlank (es ++ log)
more log [] all f h = h
more log (e ∷ es) all f h = one_more (es ++ log) e all.0 f.0 (more log es all.1 f.1 h)

-- DECISIONS

-- what is a fragment navigation
fragment_at : (t : Tree) (urls : ℕ → List ℕ) (n : ℕ) (url : List ℕ) → is_in_fragment t urls n url ≡ true → without_fragment url ≡ without_fragment (urls (t.nav n).active)
unfolding is_in_fragment
fragment_at t urls n url h =
    let now_url : List ℕ = urls (t.nav n).active in
    (bytes_eq-Decides (without_fragment url) (without_fragment now_url)).0 (both (is_some (fragment_of url)) (is_same_but_fragment url now_url) h).1

abbrev IsFragmentTo : List Entry → ℕ → Bool → List ℕ → Type 0
IsFragmentTo log n fragment url = fragment ≡ true → without_fragment url ≡ without_fragment (url_of log ((tree_of log).nav n).active)

navigation_so : (rules : Rules) (log : List Entry) (fragment : Bool) (asker n : ℕ) (url : List ℕ) → IsFragmentTo log n fragment url → IsFragmentOf (url_of log) (navigation rules (tree_of log) fragment asker n url)
navigation_so rules log true asker n url h = h refl
navigation_so rules log false asker n url h = tt

front_so : (log : List Entry) (r asker n to : ℕ) (b : Bool) (w : What) → IsFragmentOf (url_of log) w → AreFragmentsOf log ((if b then [] else by r asker (what.Opener n (Some to)) ∷ []) ++ by r asker w ∷ [])
front_so log r asker n to true w h = (h, tt)
front_so log r asker n to false w h = (tt, (h, tt))

synced_so : (log : List Entry) (r asker n to : ℕ) (b : Bool) → AreFragmentsOf log (or_sync r asker (if b then [] else by r asker (what.Opener n (Some to)) ∷ []))
synced_so log r asker n to true = (tt, tt)
synced_so log r asker n to false = (tt, tt)

-- the navigation that is decided
decided_so : (rules : Rules) (log : List Entry) (asker n : ℕ) (url : List ℕ) → IsFragmentOf (url_of log) (navigation rules (tree_of log) (is_in_fragment (tree_of log) (url_of log) n url) asker n url)
decided_so rules log asker n url = navigation_so rules log (is_in_fragment (tree_of log) (url_of log) n url) asker n url (λ k. fragment_at (tree_of log) (url_of log) n url k)

so_if : (log : List Entry) (b : Bool) (v w : What) → IsFragmentOf (url_of log) v → IsFragmentOf (url_of log) w → IsFragmentOf (url_of log) (if b then v else w)
so_if log true v w h k = h
so_if log false v w h k = k

all_if : (log : List Entry) (b : Bool) (c d : Decision) → AreFragmentsOf log c.entries → AreFragmentsOf log d.entries → AreFragmentsOf log (if b then c else d).entries
all_if log true c d h k = h
all_if log false c d h k = k

opened_so : (rules : Rules) (log : List Entry) (r asker : ℕ) (url : Option (List ℕ)) (name : List ℕ) (noopener user : Bool) (c : Choice)
    → AreFragmentsOf log (open_chosen (asking rules (tree_of log) r asker noopener user) (is_in_fragment (tree_of log) (url_of log)) url name c).entries
opened_so rules log r asker url name noopener user Nothing = (tt, tt)
opened_so rules log r asker url name noopener user New = (tt, tt)
opened_so rules log r asker None name noopener user (Existing n) = synced_so log r asker n (nav_of (tree_of log) asker) (noopener || n == nav_of (tree_of log) asker)
opened_so rules log r asker (Some url) name noopener user (Existing n) =
    let t : Tree = tree_of log in
    let w : What = navigation rules t (is_in_fragment t (url_of log) n url) asker n url in
    all_if log (may_navigate t (nav_of t asker) n user) (record { entries = opener_entry t r asker noopener n ++ by r asker w ∷ []; outcome = made_or_null noopener n }) (one r asker what.Sync (reply.Security 7))
    (front_so log r asker n (nav_of t asker) (noopener || n == nav_of t asker) w (decided_so rules log asker n url)) (tt, tt)

linked_so : (rules : Rules) (log : List Entry) (r asker : ℕ) (url name : List ℕ) (noopener user : Bool) (c : Choice)
    → IsFragmentOf (url_of log) (link_chosen (asking rules (tree_of log) r asker noopener user) (is_in_fragment (tree_of log) (url_of log)) url name c)
linked_so rules log r asker url name noopener user Nothing = tt
linked_so rules log r asker url name noopener user New = tt
linked_so rules log r asker url name noopener user (Existing n) =
    let t : Tree = tree_of log in
    so_if log (may_navigate t (nav_of t asker) n user) (navigation rules t (is_in_fragment t (url_of log) n url) asker n url) what.Sync (decided_so rules log asker n url) tt

-- what is done where two tests hold
twice_so : (log : List Entry) (r asker : ℕ) (a b : Bool) (rule : ℕ) (w : What) → IsFragmentOf (url_of log) w
    → AreFragmentsOf log (if a then (if b then one r asker w reply.Done else one r asker what.Sync (reply.Security rule)) else one r asker what.Sync reply.Done).entries
twice_so log r asker true true rule w h = (h, tt)
twice_so log r asker true false rule w h = (tt, tt)
twice_so log r asker false b rule w h = (tt, tt)

DecidesSo : List Entry → Decision → Type 0
DecidesSo log d = AreFragmentsOf log d.entries

domain_so : (rules : Rules) (log : List Entry) (r asker : ℕ) (value : List ℕ) → AreFragmentsOf log (domain_decision rules (tree_of log) r asker value).entries
unfolding DecidesSo
domain_so rules log r asker value = domain_cases (DecidesSo log) rules (tree_of log) r asker value (λ n. (tt, tt)) (λ effective e f. (tt, tt))

decide_so : (rules : Rules) (log : List Entry) (r : ℕ) (q : Request) → AreFragmentsOf log (decide rules (tree_of log) (is_in_fragment (tree_of log) (url_of log)) r q).entries
unfolding decide
decide_so rules log r ask.Next = tt
decide_so rules log r (ask.Sync asker) = (tt, tt)
decide_so rules log r (ask.Frame asker name flags url) = (tt, tt)
decide_so rules log r (ask.Drop asker nav) = (so_if log (is_in nav (children_of (tree_of log) asker)) (what.Drop nav) what.Sync tt tt, tt)
decide_so rules log r (ask.Open asker url name noopener user) = opened_so rules log r asker url name noopener user (choice (tree_of log) (nav_of (tree_of log) asker) name noopener user)
decide_so rules log r (ask.Link asker url name noopener user) = (linked_so rules log r asker url name noopener user (choice (tree_of log) (nav_of (tree_of log) asker) name noopener user), tt)
decide_so rules log r (ask.Go asker doc url user) =
    let t : Tree = tree_of log in
    twice_so log r asker (is_live t asker doc) (may_navigate t (nav_of t asker) (nav_of t doc) user) 7 (navigation rules t (is_in_fragment t (url_of log) (nav_of t doc) url) asker (nav_of t doc) url)
    (decided_so rules log asker (nav_of t doc) url)
decide_so rules log r (ask.Name asker doc name) =
    twice_so log r asker (is_live (tree_of log) asker doc) (same_domain (tree_of log) asker doc) 8 (what.Name (nav_of (tree_of log) doc) name) tt
decide_so rules log r (ask.Disown asker doc) =
    twice_so log r asker (is_live (tree_of log) asker doc) (same_domain (tree_of log) asker doc) 8 (what.Opener (nav_of (tree_of log) doc) None) tt
decide_so rules log r (ask.Close asker doc user) =
    (so_if log (is_live (tree_of log) asker doc && may_close (tree_of log) (nav_of (tree_of log) asker) (nav_of (tree_of log) doc) user) (what.Closing (nav_of (tree_of log) doc)) what.Sync tt tt, tt)
decide_so rules log r (ask.Post asker doc target body) =
    (so_if log (is_near (tree_of log) asker doc) (what.Post doc (nav_of (tree_of log) asker) (origin_of (tree_of log) asker) target body) what.Sync tt tt, tt)
decide_so rules log r (ask.Domain asker value) = domain_so rules log r asker (map to_ascii_lowercase value)
decide_so rules log r ask.More = tt

-- EXCHANGES

task_so : (urls : ℕ → List ℕ) (w : What) → IsTask w → IsFragmentOf urls w
task_so urls w (Commits nav doc begin) = tt
task_so urls w (Fires doc post) = tt
task_so urls w (Lapses doc post cause) = tt
task_so urls w (Closes nav) = tt

taken_so : (log : List Entry) (r place : ℕ) (o : Option What) → ((w : What) → o ≡ Some w → IsTask w) → AreFragmentsOf log (task_decision r place o).entries
taken_so log r place None h = tt
taken_so log r place (Some w) h = (task_so (url_of log) w (h w refl), tt)

next_so : (rules : Rules) (log : List Entry) (r : ℕ) → AreFragmentsOf log (exchange rules log r ask.Next).entries
unfolding exchange
next_so rules log r = taken_so log r (length log) (next_task log r) (next_is_task log r)

request_so : (rules : Rules) (log : List Entry) (r : ℕ) (q : Request) → has_no_asker q ≡ false → DecidesSo log (exchange rules log r q)
unfolding DecidesSo
request_so rules log r q other = decided_or_none (DecidesSo log) rules log r q other tt tt (λ been home active. decide_so rules log r q)

-- an exchange's fragment navigations change fragments alone
exchange_so : (rules : Rules) (log : List Entry) (r : ℕ) (q : Request) → AreFragmentsOf log (exchange rules log r q).entries
unfolding DecidesSo
exchange_so rules log r q = by_kind (has_no_asker q) refl
  where
    by_kind : (b : Bool) → has_no_asker q ≡ b → AreFragmentsOf log (exchange rules log r q).entries
    by_kind true e = without_asker (DecidesSo log) rules log r q e (next_so rules log r) tt
    by_kind false e = request_so rules log r q e

-- LEGAL LOGS

nothing_yet : (d : ℕ) → IsLoadedOrBlank (tree_of []) (url_of []) d
unfolding url_of
nothing_yet d = inr blank_itself

started_so : (rules : Rules) (log : List Entry) (urls : List (List ℕ)) → length log + length urls < 2 ^ 30 → AllLoadedOrBlank log → AllLoadedOrBlank (started rules log urls)
started_so rules log [] short all = all
started_so rules log (url ∷ urls) short all =
    let e : Entry = start_entry rules (tree_of log) url in
    started_so rules (e ∷ log) urls (omega arith) (one_more log e (start_fits rules log url (omega arith)).1 tt all)

starts_so : (s : Session) → length (starts_of s) < 2 ^ 30 → AllLoadedOrBlank (starts_of s)
unfolding starts_of
starts_so s short = started_so (rules_of s) [] s.start (let e = started_length (rules_of s) [] s.start in omega arith) nothing_yet

pub legal_blank : (s : Session) (log : List Entry) → IsLegalLog s log → length log < 2 ^ 30 → AllLoadedOrBlank log
legal_blank s log Started short = starts_so s short
legal_blank s log (Exchanged older r q legal there) short =
    let es : List Entry = (exchange (rules_of s) older r q).entries in
    let before : length older < 2 ^ 30 = omega (arith, longer es older) in
    more older es (exchange_admitted (rules_of s) older r q (legal_admitted s older legal before) before) (exchange_so (rules_of s) older r q) (legal_blank s older legal before)
legal_blank s log (Gave_up older r legal there) short =
    one_more older (lost_entry r) (legal_admitted s (lost_entry r ∷ older) (Gave_up older r legal there) short).0 tt (legal_blank s older legal (omega arith))
