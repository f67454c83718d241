-- What the coordinator decides on a request: the entries, newest first, and the outcome. Which requests there are is this
-- project's own; what each does is that of the HTML Standard: 4.8.5, a frame; 7.2.2.1, open and close; 4.6.4, a link;
-- 7.4.2, navigation; 7.2.2.4, name and opener; 9.3.3, postMessage; 7.1.1.2, the setter of document.domain.
use Rattle.std.specs.Prelude.{ℕ, ◌+◌, List, [], ◌∷◌, ◌++◌, length, Option, Some, None, Bool, not, ◌==◌, ◌&&◌, ◌||◌, nat_lt, is_none, is_some, map, unwrap_or, codes, false, if◌then◌else◌}
use Rattle.std.specs.Char.{to_ascii_lowercase}
use Rattle.coordinator_rules.specs.Names.{Origin, Request, ReplyOutcome, Session, Entry, Load, What}
use Rattle.origin_core.specs.Flags.{has_domain, has_navigation, has_origin, has_propagates, union}
use Rattle.origin_core.specs.Origin.{page_origin, loaded_origin, frame_origin, window_origin}
use Rattle.origin_core.specs.Page.{fragment_of, is_same_but_fragment}
use Rattle.origin_core.specs.Site.{fits, site_of}
use Rattle.origin_core.specs.declared.origin.Origin.TheVariants.{Tuple, Opaque}
use Rattle.tree_log.specs.Tree.{Tree, tree_of, is, home_of, origin_of, nav_of, is_active, group_of, children_of, same_group, same_domain, domain_of}
use Rattle.tree_log.specs.Urls.{url_of}
use Rattle.tree_log.specs.Homes.{home_for}
use Rattle.coordinator_rules.specs.NextTask.{next_task, task_entry}
use Rattle.coordinator_rules.specs.Navigation.{flags_in, is_in, is_word, may_navigate, may_close, Choice, Existing, New, Nothing, choice}

-- what the coordinator goes by: the number of renderers, and the public suffixes
pub record Rules : Type 0 where
  pub renderers : ℕ
  pub suffixes : List (List ℕ)

abbrev pub rules_of : Session → Rules
rules_of s = record { renderers = s.renderers; suffixes = s.suffixes }

pub record Decision : Type 0 where
  pub entries : List Entry
  pub outcome : ReplyOutcome

abbrev pub by : ℕ → ℕ → What → Entry
by r asker w = record { by = Some r; actor = Some asker; what = w }

abbrev pub one : ℕ → ℕ → What → ReplyOutcome → Decision
one r asker w outcome = record { entries = by r asker w ∷ []; outcome = outcome }

-- Loads: the group of a navigable that is there
abbrev pub group_in : Tree → ℕ → ℕ
group_in t n = unwrap_or (group_of t n) 0

abbrev pub load_of : Rules → Tree → ℕ → ℕ → Origin → List ℕ → Load
load_of rules t group doc origin url =
    record { doc = doc; home = home_for rules.renderers rules.suffixes t group (site_of origin rules.suffixes); origin = origin; url = url }

-- the load of a URL that a document asks for, in a group and under sandbox flags
abbrev pub load_for : Rules → Tree → ℕ → ℕ → ℕ → ℕ → List ℕ → Load
load_for rules t group flags doc asker url = load_of rules t group doc (loaded_origin (has_origin flags) doc (origin_of t asker) url) url

-- Frames: one at `about:blank` begins no load
abbrev pub frame_load : Rules → Tree → ℕ → ℕ → Option (List ℕ) → Option Load
frame_load rules t asker flags None = None
frame_load rules t asker flags (Some url) =
    if is_none (page_origin url) then None else Some (load_for rules t (group_in t (nav_of t asker)) flags (t.docs + 1) asker url)

abbrev pub frame_entry : Rules → Tree → ℕ → List ℕ → ℕ → Option (List ℕ) → What
frame_entry rules t asker name flags url =
    What.Frame t.navs t.docs (home_of t asker) (frame_origin (has_origin flags) t.docs (origin_of t asker)) name flags (frame_load rules t asker flags url)

-- the navigation of n to a URL: a fragment navigation, or a load
abbrev pub navigation : Rules → Tree → Bool → ℕ → ℕ → List ℕ → What
navigation rules t fragment asker n url =
    if fragment then What.Fragment n (t.nav n).active url
    else What.Begin n (load_for rules t (group_in t n) (flags_in t n) t.docs asker url)

-- Windows: what a new one loads
abbrev pub window_load : Rules → Tree → ℕ → ℕ → ℕ → Option (List ℕ) → Option Load
window_load rules t asker group flags None = None
window_load rules t asker group flags (Some url) = Some (load_for rules t group flags (t.docs + 1) asker url)

-- a new window has its creator's flags where they propagate
abbrev pub window_flags : Tree → ℕ → ℕ
window_flags t n = if has_propagates (flags_in t n) then flags_in t n else 0

abbrev pub window_name : List ℕ → List ℕ
window_name name = if is_word (codes "_blank") name then [] else name

abbrev pub unless : Bool → ℕ → Option ℕ
unless noopener n = if noopener then None else Some n

-- a new window of group g, made from navigable n
abbrev pub open_entry : Rules → Tree → ℕ → ℕ → ℕ → List ℕ → Bool → Option (List ℕ) → What
open_entry rules t asker n g name noopener url =
    What.Open t.navs t.docs g (home_of t asker) (window_origin noopener t.docs (origin_of t asker)) (window_name name)
    (unless noopener n) (window_flags t n) (unless (noopener || not (has_navigation (flags_in t n))) n)
    (window_load rules t asker g (window_flags t n) url)

abbrev pub new_window : Rules → Tree → ℕ → List ℕ → Bool → Option (List ℕ) → What
new_window rules t asker name noopener url =
    open_entry rules t asker (nav_of t asker) (if noopener then t.groups else group_in t (nav_of t asker)) name noopener url

-- the opener of an existing navigable is set, unless it is the one that asks
abbrev pub opener_entry : Tree → ℕ → ℕ → Bool → ℕ → List Entry
opener_entry t r asker noopener n = if noopener || n == nav_of t asker then [] else by r asker (What.Opener n (Some (nav_of t asker))) ∷ []

abbrev pub or_sync : ℕ → ℕ → List Entry → List Entry
or_sync r asker [] = by r asker What.Sync ∷ []
or_sync r asker (e ∷ es) = e ∷ es

abbrev pub made_or_null : Bool → ℕ → ReplyOutcome
made_or_null noopener n = if noopener then ReplyOutcome.Null else ReplyOutcome.Made n

-- What a request to open or to follow a link goes by: who asks, on which tree, whether its window gets no opener, and whether a
-- person caused it
pub record Asking : Type 0 where
  pub rules : Rules
  pub tree : Tree
  pub renderer : ℕ
  pub asker : ℕ
  pub noopener : Bool
  pub user : Bool

abbrev pub asking : Rules → Tree → ℕ → ℕ → Bool → Bool → Asking
asking rules t r asker noopener user = record { rules = rules; tree = t; renderer = r; asker = asker; noopener = noopener; user = user }

-- whether it may navigate n
abbrev pub may_send : Asking → ℕ → Bool
may_send a n = may_navigate a.tree (nav_of a.tree a.asker) n a.user

-- the navigation of n that it comes to
abbrev pub sent_to : Asking → (ℕ → List ℕ → Bool) → ℕ → List ℕ → What
sent_to a in_fragment n url = navigation a.rules a.tree (in_fragment n url) a.asker n url

abbrev pub opener_set : Asking → ℕ → List Entry
opener_set a n = opener_entry a.tree a.renderer a.asker a.noopener n

abbrev pub open_existing : Asking → (ℕ → List ℕ → Bool) → ℕ → Option (List ℕ) → Decision
open_existing a in_fragment n None = record { entries = or_sync a.renderer a.asker (opener_set a n); outcome = made_or_null a.noopener n }
open_existing a in_fragment n (Some url) =
    if may_send a n then
    record { entries = opener_set a n ++ by a.renderer a.asker (sent_to a in_fragment n url) ∷ []; outcome = made_or_null a.noopener n }
    else one a.renderer a.asker What.Sync (ReplyOutcome.Security 7)

abbrev pub open_chosen : Asking → (ℕ → List ℕ → Bool) → Option (List ℕ) → List ℕ → Choice → Decision
open_chosen a in_fragment url name Nothing = one a.renderer a.asker What.Sync ReplyOutcome.Null
open_chosen a in_fragment url name New =
    one a.renderer a.asker (new_window a.rules a.tree a.asker name a.noopener url) (made_or_null a.noopener a.tree.navs)
open_chosen a in_fragment url name (Existing n) = open_existing a in_fragment n url

abbrev pub link_chosen : Asking → (ℕ → List ℕ → Bool) → List ℕ → List ℕ → Choice → What
link_chosen a in_fragment url name Nothing = What.Sync
link_chosen a in_fragment url name New = new_window a.rules a.tree a.asker name a.noopener (Some url)
link_chosen a in_fragment url name (Existing n) = if may_send a n then sent_to a in_fragment n url else What.Sync

-- Other documents: whether one is there, in the asker's group
abbrev pub is_near : Tree → ℕ → ℕ → Bool
is_near t asker doc = nat_lt doc t.docs && same_group t (nav_of t asker) (nav_of t doc)

abbrev pub is_live : Tree → ℕ → ℕ → Bool
is_live t asker doc = is_near t asker doc && is_active t doc

-- what is done to a live document of the asker's origin-domain
abbrev pub if_open : Tree → ℕ → ℕ → ℕ → What → Decision
if_open t r asker doc w =
    if is_live t asker doc then
    if same_domain t asker doc then one r asker w ReplyOutcome.Done
    else one r asker What.Sync (ReplyOutcome.Security 8)
    else one r asker What.Sync ReplyOutcome.Done

-- Domains: the effective domain of a document, by its origin and the domain that it has set: none for an opaque origin; else
-- that domain, or its host
abbrev pub effective_domain : Origin → Option (List ℕ) → Option (List ℕ)
effective_domain (Opaque n) domain = None
effective_domain (Tuple t) domain = Some (unwrap_or domain t.host)

abbrev pub is_address : Origin → Bool
is_address (Opaque n) = false
is_address (Tuple t) = t.ip

-- a document whose effective domain is this may set one that fits it
abbrev pub domain_set : Rules → Tree → ℕ → ℕ → List ℕ → Option (List ℕ) → Decision
domain_set rules t r asker value None = one r asker What.Sync (ReplyOutcome.Security 10)
domain_set rules t r asker value (Some effective) =
    if fits value effective (is_address (origin_of t asker)) rules.suffixes then one r asker (What.Domain asker value) ReplyOutcome.Done
    else one r asker What.Sync (ReplyOutcome.Security 11)

-- and one under the sandbox flag may set none
abbrev pub domain_decision : Rules → Tree → ℕ → ℕ → List ℕ → Decision
domain_decision rules t r asker value =
    if has_domain (flags_in t (nav_of t asker)) then one r asker What.Sync (ReplyOutcome.Security 9)
    else domain_set rules t r asker value (effective_domain (origin_of t asker) (domain_of t asker))

-- The decision, on a request of a document that is active. It looks at URLs by `in_fragment` alone: whether the navigation of
-- a navigable to a URL is one to a fragment
unfoldable pub decide : Rules → Tree → (ℕ → List ℕ → Bool) → ℕ → Request → Decision
decide rules t in_fragment r Request.Next = record { entries = []; outcome = ReplyOutcome.Nothing }
decide rules t in_fragment r (Request.Sync asker) = one r asker What.Sync ReplyOutcome.Done
decide rules t in_fragment r (Request.Frame asker name flags url) =
    one r asker (frame_entry rules t asker name (union flags (flags_in t (nav_of t asker))) url) (ReplyOutcome.Made t.navs)
decide rules t in_fragment r (Request.Drop asker nav) = one r asker (if is_in nav (children_of t asker) then What.Drop nav else What.Sync) ReplyOutcome.Done
decide rules t in_fragment r (Request.Open asker url name noopener user) =
    open_chosen (asking rules t r asker noopener user) in_fragment url name (choice t (nav_of t asker) name noopener user)
decide rules t in_fragment r (Request.Link asker url name noopener user) =
    one r asker (link_chosen (asking rules t r asker noopener user) in_fragment url name (choice t (nav_of t asker) name noopener user)) ReplyOutcome.Done
decide rules t in_fragment r (Request.Go asker doc url user) =
    if is_live t asker doc then
    if may_navigate t (nav_of t asker) (nav_of t doc) user then one r asker (navigation rules t (in_fragment (nav_of t doc) url) asker (nav_of t doc) url) ReplyOutcome.Done
    else one r asker What.Sync (ReplyOutcome.Security 7)
    else one r asker What.Sync ReplyOutcome.Done
decide rules t in_fragment r (Request.Name asker doc name) = if_open t r asker doc (What.Name (nav_of t doc) name)
decide rules t in_fragment r (Request.Disown asker doc) = if_open t r asker doc (What.Opener (nav_of t doc) None)
decide rules t in_fragment r (Request.Close asker doc user) =
    one r asker (if is_live t asker doc && may_close t (nav_of t asker) (nav_of t doc) user then What.Closing (nav_of t doc) else What.Sync) ReplyOutcome.Done
decide rules t in_fragment r (Request.Post asker doc target body) =
    one r asker (if is_near t asker doc then What.Post doc (nav_of t asker) (origin_of t asker) target body else What.Sync) ReplyOutcome.Done
decide rules t in_fragment r (Request.Domain asker value) = domain_decision rules t r asker (map to_ascii_lowercase value)
decide rules t in_fragment r Request.More = record { entries = []; outcome = ReplyOutcome.Done }

-- Fragments: whether the URL equals that of the navigable's document but for fragments, and its own isn't null (HTML Standard,
-- 7.4.2.2)
unfoldable pub is_in_fragment : Tree → (ℕ → List ℕ) → ℕ → List ℕ → Bool
is_in_fragment t urls n url = is_some (fragment_of url) && is_same_but_fragment url (urls (t.nav n).active)

-- Exchanges: the document that asks
abbrev pub asker_of : Request → ℕ
asker_of Request.Next = 0
asker_of (Request.Sync asker) = asker
asker_of (Request.Frame asker _ _ _) = asker
asker_of (Request.Drop asker _) = asker
asker_of (Request.Open asker _ _ _ _) = asker
asker_of (Request.Link asker _ _ _ _) = asker
asker_of (Request.Go asker _ _ _) = asker
asker_of (Request.Name asker _ _) = asker
asker_of (Request.Disown asker _) = asker
asker_of (Request.Close asker _ _) = asker
asker_of (Request.Post asker _ _ _) = asker
asker_of (Request.Domain asker _) = asker
asker_of Request.More = 0

-- the place of the entry that ended a document
unfoldable pub end_of : List Entry → ℕ → ℕ
end_of [] d = 0
end_of (e ∷ older) d = if is_active (tree_of older) d then length older else end_of older d

abbrev pub home_if_active : Tree → ℕ → Option ℕ
home_if_active t d = if (t.doc d).been_active then Some (home_of t d) else None

-- on a request of a document of that renderer
unfoldable pub asked_decision : Rules → List Entry → ℕ → Request → Decision
asked_decision rules log r request =
    if is_active (tree_of log) (asker_of request) then decide rules (tree_of log) (is_in_fragment (tree_of log) (url_of log)) r request
    else record { entries = []; outcome = ReplyOutcome.Unloaded (end_of log (asker_of request)) }

abbrev pub task_decision : ℕ → ℕ → Option What → Decision
task_decision r place None = record { entries = []; outcome = ReplyOutcome.Nothing }
task_decision r place (Some w) = record { entries = task_entry r w ∷ []; outcome = ReplyOutcome.Task place }

-- what one exchange of a renderer gives: its next task; nothing, where the rest of a reply is told; or else, where the asker is a
-- document of that renderer, what is decided on the request
unfoldable pub exchange : Rules → List Entry → ℕ → Request → Decision
exchange rules log r Request.Next = task_decision r (length log) (next_task log r)
exchange rules log r Request.More = record { entries = []; outcome = ReplyOutcome.Done }
exchange rules log r request =
    if is (home_if_active (tree_of log) (asker_of request)) r then asked_decision rules log r request
    else record { entries = []; outcome = ReplyOutcome.NotYours (asker_of request) (home_if_active (tree_of log) (asker_of request)) }
