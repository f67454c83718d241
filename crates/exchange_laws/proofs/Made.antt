-- The entries that a request brings about, by their kinds.
use Rattle.std.proofs.Common.{◌≡◌, ℕ, List, [], ◌∷◌, ◌++◌, Option, Some, None, Bool, true, false, refl}
use Rattle.std.specs.Prelude.{◌||◌, ◌&&◌, ◌==◌, map, if◌then◌else◌}
use Rattle.std.specs.List.{AllByRecursion}
use Rattle.std.specs.Char.{to_ascii_lowercase}
use Rattle.origin_core.specs.Flags.{union}
use Rattle.origin_core.specs.Site.{fits}
use Rattle.plain_data.specs.declared.data.Data.{Data}
use Rattle.tree_log.specs.declared.entry.Entry.{Entry}
use Rattle.tree_log.specs.declared.entry.Target.{Target}
use Rattle.tree_log.specs.declared.entry.What.{What}
use Rattle.tree_log.specs.declared.entry.What.TheVariants as what
use Rattle.tree_log.specs.Tree.{Tree, nav_of, origin_of, domain_of, children_of, same_domain}
use Rattle.agent_terms.specs.declared.request.Request.{Request}
use Rattle.agent_terms.specs.declared.request.Request.TheVariants as ask
use Rattle.agent_terms.specs.declared.request.ReplyOutcome.{ReplyOutcome}
use Rattle.agent_terms.specs.declared.request.ReplyOutcome.TheVariants as reply
use Rattle.coordinator_rules.specs.Navigation.{flags_in, is_in, may_navigate, may_close, Choice, Existing, New, Nothing, choice}
use Rattle.coordinator_rules.specs.Decision.{asking, Rules, Decision, decide, asker_of, by, one, group_in, load_for, navigation, frame_entry, new_window, made_or_null, opener_entry, or_sync, open_chosen, link_chosen, is_live, is_near, is_address, effective_domain}
use Rattle.agent_laws.proofs.Logs.Exchanges.{domain_cases}

-- what a request names: a URL, and a name
abbrev pub url_in : Request → Option (List ℕ)
url_in (ask.Open _ url _ _ _) = url
url_in (ask.Link _ url _ _ _) = Some url
url_in (ask.Go _ _ url _) = Some url
url_in q = None

abbrev pub name_in : Request → List ℕ
name_in (ask.Open _ _ name _ _) = name
name_in (ask.Link _ _ name _ _) = name
name_in (ask.Name _ _ name) = name
name_in q = []

-- what a request may bring about on a tree
pub data IsMade (rules : Rules) (t : Tree) : Request → What → Type 0 where
  Syncs : (q : Request) → IsMade rules t q what.Sync
  Frames : (asker : ℕ) (name : List ℕ) (flags : ℕ) (url : Option (List ℕ))
      → IsMade rules t (ask.Frame asker name flags url) (frame_entry rules t asker name (union flags (flags_in t (nav_of t asker))) url)
  Drops : (q : Request) (nav : ℕ) → IsMade rules t q (what.Drop nav)
  Windows : (q : Request) (noopener : Bool) → IsMade rules t q (new_window rules t (asker_of q) (name_in q) noopener (url_in q))
  Begins : (q : Request) (n : ℕ) (url : List ℕ) → url_in q ≡ Some url
      → IsMade rules t q (what.Begin n (load_for rules t (group_in t n) (flags_in t n) t.docs (asker_of q) url))
  Fragments : (q : Request) (n d : ℕ) (url : List ℕ) → url_in q ≡ Some url → IsMade rules t q (what.Fragment n d url)
  Openers : (q : Request) (n : ℕ) (to : Option ℕ) → IsMade rules t q (what.Opener n to)
  Names : (q : Request) (n : ℕ) → IsMade rules t q (what.Name n (name_in q))
  Closes : (q : Request) (n : ℕ) → IsMade rules t q (what.Closing n)
  Posts : (asker doc : ℕ) (target : Target) (body : Data)
      → IsMade rules t (ask.Post asker doc target body) (what.Post doc (nav_of t asker) (origin_of t asker) target body)
  Relaxes : (asker : ℕ) (value effective : List ℕ) → effective_domain (origin_of t asker) (domain_of t asker) ≡ Some effective
      → fits (map to_ascii_lowercase value) effective (is_address (origin_of t asker)) rules.suffixes ≡ true
      → IsMade rules t (ask.Domain asker value) (what.Domain asker (map to_ascii_lowercase value))

-- an entry of renderer r that the asker of a request brings about
pub record IsAsked (rules : Rules) (t : Tree) (r : ℕ) (q : Request) (e : Entry) : Type 0 where
  pub by : e.by ≡ Some r
  pub actor : e.actor ≡ Some (asker_of q)
  pub made : IsMade rules t q e.what

-- at most two, of which the second is an opener that is set
abbrev pub AreFew : List Entry → Type 0
AreFew [] = Unit {0}
AreFew (e ∷ []) = Unit {0}
AreFew (e ∷ first ∷ []) = (n : ℕ) × (to : Option ℕ) × (e.what ≡ what.Opener n to)
AreFew (e ∷ first ∷ d ∷ es) = ⊥

pub record IsDecided (rules : Rules) (t : Tree) (r : ℕ) (q : Request) (d : Decision) : Type 0 where
  pub asked : AllByRecursion (IsAsked rules t r q) d.entries
  pub few : AreFew d.entries

none_decided : (rules : Rules) (t : Tree) (r : ℕ) (q : Request) (o : ReplyOutcome) → IsDecided rules t r q (record { entries = []; outcome = o })
none_decided rules t r q o = record { asked = tt; few = tt }

one_decided : (rules : Rules) (t : Tree) (r : ℕ) (q : Request) (w : What) (o : ReplyOutcome) → IsMade rules t q w → IsDecided rules t r q (one r (asker_of q) w o)
one_decided rules t r q w o made = record { asked = (record { by = refl; actor = refl; made = made }, tt); few = tt }

sync_decided : (rules : Rules) (t : Tree) (r : ℕ) (q : Request) (o : ReplyOutcome) → IsDecided rules t r q (one r (asker_of q) what.Sync o)
sync_decided rules t r q o = one_decided rules t r q what.Sync o (Syncs q)

decided_if : (rules : Rules) (t : Tree) (r : ℕ) (q : Request) (b : Bool) (c d : Decision) → IsDecided rules t r q c → IsDecided rules t r q d → IsDecided rules t r q (if b then c else d)
decided_if rules t r q true c d h k = h
decided_if rules t r q false c d h k = k

made_if : (rules : Rules) (t : Tree) (q : Request) (b : Bool) (v w : What) → IsMade rules t q v → IsMade rules t q w → IsMade rules t q (if b then v else w)
made_if rules t q true v w h k = h
made_if rules t q false v w h k = k

navigation_made : (rules : Rules) (t : Tree) (q : Request) (fragment : Bool) (n : ℕ) (url : List ℕ) → url_in q ≡ Some url → IsMade rules t q (navigation rules t fragment (asker_of q) n url)
navigation_made rules t q true n url e = Fragments q n (t.nav n).active url e
navigation_made rules t q false n url e = Begins q n url e

-- what is done where a test passes, after another
tested : (rules : Rules) (t : Tree) (r : ℕ) (q : Request) (a b : Bool) (w : What) (o p s : ReplyOutcome) → IsMade rules t q w
    → IsDecided rules t r q (if a then if b then one r (asker_of q) w o else one r (asker_of q) what.Sync p else one r (asker_of q) what.Sync s)
tested rules t r q a b w o p s made =
    decided_if rules t r q a (if b then one r (asker_of q) w o else one r (asker_of q) what.Sync p) (one r (asker_of q) what.Sync s)
    (decided_if rules t r q b (one r (asker_of q) w o) (one r (asker_of q) what.Sync p) (one_decided rules t r q w o made) (sync_decided rules t r q p)) (sync_decided rules t r q s)

front_decided : (rules : Rules) (t : Tree) (r : ℕ) (q : Request) (b : Bool) (n to : ℕ) (w : What) (o : ReplyOutcome) → IsMade rules t q w
    → IsDecided rules t r q (record { entries = (if b then [] else by r (asker_of q) (what.Opener n (Some to)) ∷ []) ++ by r (asker_of q) w ∷ []; outcome = o })
front_decided rules t r q true n to w o made = record { asked = (record { by = refl; actor = refl; made = made }, tt); few = tt }
front_decided rules t r q false n to w o made = record {
  asked = (record { by = refl; actor = refl; made = Openers q n (Some to) }, (record { by = refl; actor = refl; made = made }, tt));
  few = (n, Some to, refl);
}

opener_decided : (rules : Rules) (t : Tree) (r : ℕ) (q : Request) (b : Bool) (n to : ℕ) (o : ReplyOutcome)
    → IsDecided rules t r q (record { entries = or_sync r (asker_of q) (if b then [] else by r (asker_of q) (what.Opener n (Some to)) ∷ []); outcome = o })
opener_decided rules t r q true n to o = record { asked = (record { by = refl; actor = refl; made = Syncs q }, tt); few = tt }
opener_decided rules t r q false n to o = record { asked = (record { by = refl; actor = refl; made = Openers q n (Some to) }, tt); few = tt }

open_decided : (rules : Rules) (t : Tree) (f : ℕ → List ℕ → Bool) (r asker : ℕ) (url : Option (List ℕ)) (name : List ℕ) (noopener user : Bool) (c : Choice)
    → IsDecided rules t r (ask.Open asker url name noopener user) (open_chosen (asking rules t r asker noopener user) f url name c)
open_decided rules t f r asker url name noopener user Nothing = sync_decided rules t r (ask.Open asker url name noopener user) reply.Null
open_decided rules t f r asker url name noopener user New =
    let q = ask.Open asker url name noopener user in
    one_decided rules t r q (new_window rules t asker name noopener url) (made_or_null noopener t.navs) (Windows q noopener)
open_decided rules t f r asker None name noopener user (Existing n) =
    opener_decided rules t r (ask.Open asker None name noopener user) (noopener || n == nav_of t asker) n (nav_of t asker) (made_or_null noopener n)
open_decided rules t f r asker (Some url) name noopener user (Existing n) =
    let q = ask.Open asker (Some url) name noopener user in
    decided_if rules t r q (may_navigate t (nav_of t asker) n user)
    (record { entries = opener_entry t r asker noopener n ++ by r asker (navigation rules t (f n url) asker n url) ∷ []; outcome = made_or_null noopener n }) (one r asker what.Sync (reply.Security 7))
    (front_decided rules t r q (noopener || n == nav_of t asker) n (nav_of t asker) (navigation rules t (f n url) asker n url) (made_or_null noopener n) (navigation_made rules t q (f n url) n url refl))
    (sync_decided rules t r q (reply.Security 7))

link_made : (rules : Rules) (t : Tree) (f : ℕ → List ℕ → Bool) (r asker : ℕ) (url name : List ℕ) (noopener user : Bool) (c : Choice)
    → IsMade rules t (ask.Link asker url name noopener user) (link_chosen (asking rules t r asker noopener user) f url name c)
link_made rules t f r asker url name noopener user Nothing = Syncs _
link_made rules t f r asker url name noopener user New = Windows (ask.Link asker url name noopener user) noopener
link_made rules t f r asker url name noopener user (Existing n) =
    let q = ask.Link asker url name noopener user in
    made_if rules t q (may_navigate t (nav_of t asker) n user) (navigation rules t (f n url) asker n url) what.Sync (navigation_made rules t q (f n url) n url refl) (Syncs q)

Decided : Rules → Tree → ℕ → Request → Decision → Type 0
Decided rules t r q d = IsDecided rules t r q d

pub decide-made : (rules : Rules) (t : Tree) (f : ℕ → List ℕ → Bool) (r : ℕ) (q : Request) → IsDecided rules t r q (decide rules t f r q)
unfolding decide Decided
decide-made rules t f r ask.Next = none_decided rules t r ask.Next reply.Nothing
decide-made rules t f r (ask.Sync asker) = sync_decided rules t r (ask.Sync asker) reply.Done
decide-made rules t f r (ask.Frame asker name flags url) =
    one_decided rules t r (ask.Frame asker name flags url) (frame_entry rules t asker name (union flags (flags_in t (nav_of t asker))) url) (reply.Made t.navs) (Frames asker name flags url)
decide-made rules t f r (ask.Drop asker nav) =
    let q = ask.Drop asker nav in
    one_decided rules t r q (if is_in nav (children_of t asker) then what.Drop nav else what.Sync) reply.Done (made_if rules t q (is_in nav (children_of t asker)) (what.Drop nav) what.Sync (Drops q nav) (Syncs q))
decide-made rules t f r (ask.Open asker url name noopener user) = open_decided rules t f r asker url name noopener user (choice t (nav_of t asker) name noopener user)
decide-made rules t f r (ask.Link asker url name noopener user) =
    let c = choice t (nav_of t asker) name noopener user in
    one_decided rules t r (ask.Link asker url name noopener user) (link_chosen (asking rules t r asker noopener user) f url name c) reply.Done (link_made rules t f r asker url name noopener user c)
decide-made rules t f r (ask.Go asker doc url user) =
    let q = ask.Go asker doc url user in
    tested rules t r q (is_live t asker doc) (may_navigate t (nav_of t asker) (nav_of t doc) user) (navigation rules t (f (nav_of t doc) url) asker (nav_of t doc) url) reply.Done (reply.Security 7) reply.Done
    (navigation_made rules t q (f (nav_of t doc) url) (nav_of t doc) url refl)
decide-made rules t f r (ask.Name asker doc name) =
    let q = ask.Name asker doc name in
    tested rules t r q (is_live t asker doc) (same_domain t asker doc) (what.Name (nav_of t doc) name) reply.Done (reply.Security 8) reply.Done (Names q (nav_of t doc))
decide-made rules t f r (ask.Disown asker doc) =
    let q = ask.Disown asker doc in
    tested rules t r q (is_live t asker doc) (same_domain t asker doc) (what.Opener (nav_of t doc) None) reply.Done (reply.Security 8) reply.Done (Openers q (nav_of t doc) None)
decide-made rules t f r (ask.Close asker doc user) =
    let q = ask.Close asker doc user in
    let b = is_live t asker doc && may_close t (nav_of t asker) (nav_of t doc) user in
    one_decided rules t r q (if b then what.Closing (nav_of t doc) else what.Sync) reply.Done (made_if rules t q b (what.Closing (nav_of t doc)) what.Sync (Closes q (nav_of t doc)) (Syncs q))
decide-made rules t f r (ask.Post asker doc target body) =
    let q = ask.Post asker doc target body in
    let w = what.Post doc (nav_of t asker) (origin_of t asker) target body in
    one_decided rules t r q (if is_near t asker doc then w else what.Sync) reply.Done (made_if rules t q (is_near t asker doc) w what.Sync (Posts asker doc target body) (Syncs q))
decide-made rules t f r (ask.Domain asker value) =
    let q = ask.Domain asker value in
    domain_cases (Decided rules t r q) rules t r asker (map to_ascii_lowercase value) (λ n. sync_decided rules t r q (reply.Security n))
    (λ effective e fit. one_decided rules t r q (what.Domain asker (map to_ascii_lowercase value)) reply.Done (Relaxes asker value effective e fit))
decide-made rules t f r ask.More = none_decided rules t r ask.More reply.Done
