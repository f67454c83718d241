-- Alike requests on twin logs.
use Rattle.std.proofs.Common.{◌≡◌, ℕ, ◌+◌, List, [], ◌∷◌, ◌++◌, Option, Some, None, Bool, true, false, refl, ap, ◌∙◌, sym, not, ◌||◌, if◌then◌else◌, inl, inr, subst}
use Rattle.std.specs.Prelude.{◌==◌, is_none}
use Rattle.std.proofs.lemmas.Bool.{false≢true}
use Rattle.std.specs.Option.{option_or}
use Rattle.plain_data.specs.declared.data.Data.{Data}
use Rattle.origin_core.specs.declared.origin.Origin.{Origin}
use Rattle.origin_core.specs.Flags.{has_origin, has_navigation, union}
use Rattle.origin_core.specs.Origin.{page_origin, frame_origin, window_origin}
use Rattle.tree_log.specs.declared.entry.Entry.{Entry}
use Rattle.tree_log.specs.declared.entry.Target.{Target}
use Rattle.tree_log.specs.declared.entry.What.{What}
use Rattle.tree_log.specs.declared.entry.What.TheVariants.{Open, Frame, Begin, Fragment, Opener, Post, Sync}
use Rattle.tree_log.specs.Tree.{Tree, tree_of, tree_after, tree_of_step, home_of, origin_of, nav_of, is_active, is}
use Rattle.tree_log.specs.Urls.{url_of}
use Rattle.tree_log.specs.Blanking.{is_homed}
use Rattle.agent_terms.specs.declared.request.Request.{Request}
use Rattle.agent_terms.specs.declared.request.Request.TheVariants as ask
use Rattle.agent_terms.specs.declared.request.ReplyOutcome.{ReplyOutcome}
use Rattle.agent_terms.specs.declared.request.ReplyOutcome.TheVariants as reply
use Rattle.coordinator_rules.specs.Navigation.{flags_in, may_navigate, Choice, Existing, New, Nothing, choice}
use Rattle.coordinator_rules.specs.Decision.{asking, Rules, Decision, decide, exchange, end_of, is_in_fragment, asker_of, home_if_active, by, one, group_in, load_for, frame_entry, navigation, new_window, window_flags, window_name, unless, made_or_null, open_chosen, link_chosen, opener_entry, is_live, is_near}
use Rattle.agent_laws.specs.Actors.{has_no_asker}
use Rattle.twin_laws.specs.Twins.{TwinLogs, HomesStay}
use Rattle.twin_laws.specs.Alike.{url_home, url_home_in, IsElsewhere, HasSameOrigin, made, is_fragment, has_fragment, Differs, Message, Gone_to, Linked, Opened, Framed, IsAlike}
use Rattle.agent_laws.proofs.Logs.Exchanges.{exchange-asked, asked-decided, not_yours, unloaded, rest_told, more_gives}
use Rattle.twin_laws.proofs.NextTwins.{next_pair}
use Rattle.twin_laws.proofs.Twins.{Agree, agree_same, agree_at, agree_if, TwinWhat, same_twin, loading_twin, home_of_begin, home_of_open, home_of_frame, fragment_home, tree_of-twin, end_of-twin}

-- one answer, whatever is navigated to
abbrev always : Bool → ℕ → List ℕ → Bool
always fragment n url = fragment

-- THE ENTRIES OF A URL

navigation_twin : (rules : Rules) (left : List Entry) (r x asker n : ℕ) (url other : List ℕ) → HasSameOrigin (tree_of left) asker url other
    → (fragment : Bool) → IsElsewhere r (url_home (tree_of left) (navigation rules (tree_of left) fragment asker n url))
    → TwinWhat left r x asker (navigation rules (tree_of left) fragment asker n url) (navigation rules (tree_of left) fragment asker n other)
navigation_twin rules left r x asker n url other e true h =
    let d : ℕ = ((tree_of left).nav n).active in
    let k : is_homed (tree_of (by x asker (Fragment n d url) ∷ left)) r d ≡ false = rw (tree_of_step (by x asker (Fragment n d url)) left) (fragment_home (tree_of left) r x asker n d d url h) in
    record { same_bare = refl; same_blank = rw k refl }
navigation_twin rules left r x asker n url other e false h =
    let t : Tree = tree_of left in
    loading_twin rules left r x asker (group_in t n) (flags_in t n) t.docs url other (λ z. Begin n z) (λ z. refl) (λ kept z. refl)
    (home_of_begin t x asker n (load_for rules t (group_in t n) (flags_in t n) t.docs asker url)) e h

window_twin : (rules : Rules) (left : List Entry) (r x asker : ℕ) (url other name : List ℕ) (noopener : Bool) → HasSameOrigin (tree_of left) asker url other
    → IsElsewhere r (url_home (tree_of left) (new_window rules (tree_of left) asker name noopener (Some url)))
    → TwinWhat left r x asker (new_window rules (tree_of left) asker name noopener (Some url)) (new_window rules (tree_of left) asker name noopener (Some other))
window_twin rules left r x asker url other name noopener e h =
    let t : Tree = tree_of left in
    let n : ℕ = nav_of t asker in
    let group : ℕ = if noopener then t.groups else group_in t n in
    let navigator : Option ℕ = unless (noopener || not (has_navigation (flags_in t n))) n in
    loading_twin rules left r x asker group (window_flags t n) (t.docs + 1) url other
    (λ z. Open t.navs t.docs group (home_of t asker) (window_origin noopener t.docs (origin_of t asker)) (window_name name) (unless noopener n) (window_flags t n) navigator (Some z)) (λ z. refl) (λ kept z. refl)
    (home_of_open t x asker t.navs group (home_of t asker) (window_origin noopener t.docs (origin_of t asker)) (window_name name) (unless noopener n) (window_flags t n) navigator
    (load_for rules t group (window_flags t n) (t.docs + 1) asker url) refl) e h

frame_twin : (rules : Rules) (left : List Entry) (r x asker home : ℕ) (origin : Origin) (name : List ℕ) (flags group : ℕ) (url other : List ℕ) → HasSameOrigin (tree_of left) asker url other → (a b : Bool) → a ≡ b
    → IsElsewhere r (url_home (tree_of left) (Frame (tree_of left).navs (tree_of left).docs home origin name flags (if a then None else Some (load_for rules (tree_of left) group flags ((tree_of left).docs + 1) asker url))))
    → TwinWhat left r x asker (Frame (tree_of left).navs (tree_of left).docs home origin name flags (if a then None else Some (load_for rules (tree_of left) group flags ((tree_of left).docs + 1) asker url)))
    (Frame (tree_of left).navs (tree_of left).docs home origin name flags (if b then None else Some (load_for rules (tree_of left) group flags ((tree_of left).docs + 1) asker other)))
frame_twin rules left r x asker home origin name flags group url other e true true s h = absurd h
frame_twin rules left r x asker home origin name flags group url other e false false s h =
    let t : Tree = tree_of left in
    loading_twin rules left r x asker group flags (t.docs + 1) url other (λ z. Frame t.navs t.docs home origin name flags (Some z)) (λ z. refl) (λ kept z. refl)
    (home_of_frame t x asker t.navs home origin name flags (load_for rules t group flags (t.docs + 1) asker url) refl) e h
frame_twin rules left r x asker home origin name flags group url other e true false s h = absurd (false≢true (sym s))
frame_twin rules left r x asker home origin name flags group url other e false true s h = absurd (false≢true s)

-- DECISIONS

or_none : (o : Option ℕ) → option_or o None ≡ o
or_none None = refl
or_none (Some n) = refl

at_one : (r : ℕ) (t : Tree) (e : Entry) → IsElsewhere r (url_home_in t (e ∷ [])) → IsElsewhere r (url_home t e.what)
at_one r t e h = subst (IsElsewhere r) (or_none (url_home t e.what)) h

front_by : (t : Tree) (r : ℕ) (test : Bool) (f e : Entry) → url_home t f.what ≡ None → IsElsewhere r (url_home_in t ((if test then [] else f ∷ []) ++ e ∷ [])) → IsElsewhere r (url_home t e.what)
front_by t r true f e none h = at_one r t e h
front_by t r false f e none h = at_one r t e (rw none at h)

-- the opener's entry has no URL
opener_front : (t : Tree) (r x asker n : ℕ) (noopener : Bool) (e : Entry) → IsElsewhere r (url_home_in t (opener_entry t x asker noopener n ++ e ∷ [])) → IsElsewhere r (url_home t e.what)
opener_front t r x asker n noopener e h = front_by t r (noopener || n == nav_of t asker) (by x asker (Opener n (Some (nav_of t asker)))) e refl h

post_home : (t : Tree) (r x asker doc from d : ℕ) (origin : Origin) (target : Target) (body : Data) → (home_of t d == r) ≡ false → is_homed (tree_after t (by x asker (Post doc from origin target body))) r d ≡ false
unfolding tree_after
post_home t r x asker doc from d origin target body h = h

post_agree : (left : List Entry) (r x asker doc from : ℕ) (origin : Origin) (target other : Target) (body other_body : Data) → (home_of (tree_of left) doc == r) ≡ false → (test : Bool)
    → Agree r left (one x asker (if test then Post doc from origin target body else Sync) reply.Done) (one x asker (if test then Post doc from origin other other_body else Sync) reply.Done)
post_agree left r x asker doc from origin target other body other_body h true =
    let a : Entry = by x asker (Post doc from origin target body) in
    let k : is_homed (tree_of (a ∷ left)) r doc ≡ false = rw (tree_of_step a left) (post_home (tree_of left) r x asker doc from doc origin target body h) in
    agree_at r left [] x asker (Post doc from origin target body) (Post doc from origin other other_body) reply.Done (record { same_bare = refl; same_blank = rw k refl })
post_agree left r x asker doc from origin target other body other_body h false = agree_same r left (one x asker Sync reply.Done)

twin_if : (left : List Entry) (r x asker : ℕ) (test : Bool) (v w other : What) → (IsElsewhere r (url_home (tree_of left) v) → TwinWhat left r x asker v w)
    → IsElsewhere r (url_home (tree_of left) (if test then v else other)) → TwinWhat left r x asker (if test then v else other) (if test then w else other)
twin_if left r x asker true v w other f h = f h
twin_if left r x asker false v w other f h = same_twin (is_homed (tree_of (by x asker other ∷ left)) r) (by x asker other)

link_twin : (rules : Rules) (left : List Entry) (r x asker : ℕ) (url other name : List ℕ) (noopener user fragment : Bool) → HasSameOrigin (tree_of left) asker url other → (c : Choice)
    → IsElsewhere r (url_home (tree_of left) (link_chosen (asking rules (tree_of left) x asker noopener user) (always fragment) url name c))
    → TwinWhat left r x asker (link_chosen (asking rules (tree_of left) x asker noopener user) (always fragment) url name c) (link_chosen (asking rules (tree_of left) x asker noopener user) (always fragment) other name c)
link_twin rules left r x asker url other name noopener user fragment e Nothing h = absurd h
link_twin rules left r x asker url other name noopener user fragment e New h = window_twin rules left r x asker url other name noopener e h
link_twin rules left r x asker url other name noopener user fragment e (Existing n) h =
    let t : Tree = tree_of left in
    twin_if left r x asker (may_navigate t (nav_of t asker) n user) (navigation rules t fragment asker n url) (navigation rules t fragment asker n other) Sync (navigation_twin rules left r x asker n url other e fragment) h

opened_agree : (rules : Rules) (left : List Entry) (r x asker : ℕ) (url other name : List ℕ) (noopener user fragment : Bool) → HasSameOrigin (tree_of left) asker url other → (c : Choice)
    → IsElsewhere r (url_home_in (tree_of left) (open_chosen (asking rules (tree_of left) x asker noopener user) (always fragment) (Some url) name c).entries)
    → Agree r left (open_chosen (asking rules (tree_of left) x asker noopener user) (always fragment) (Some url) name c) (open_chosen (asking rules (tree_of left) x asker noopener user) (always fragment) (Some other) name c)
opened_agree rules left r x asker url other name noopener user fragment e Nothing h = agree_same r left (one x asker Sync reply.Null)
opened_agree rules left r x asker url other name noopener user fragment e New h =
    let t : Tree = tree_of left in
    agree_at r left [] x asker (new_window rules t asker name noopener (Some url)) (new_window rules t asker name noopener (Some other)) (made_or_null noopener t.navs)
    (window_twin rules left r x asker url other name noopener e (at_one r t (by x asker (new_window rules t asker name noopener (Some url))) h))
opened_agree rules left r x asker url other name noopener user fragment e (Existing n) h =
    let t : Tree = tree_of left in
    let front : List Entry = opener_entry t x asker noopener n in
    let o : ReplyOutcome = made_or_null noopener n in
    agree_if r left t (may_navigate t (nav_of t asker) n user) (record { entries = front ++ by x asker (navigation rules t fragment asker n url) ∷ []; outcome = o })
    (record { entries = front ++ by x asker (navigation rules t fragment asker n other) ∷ []; outcome = o }) (one x asker Sync (reply.Security 7))
    (λ k. agree_at r left front x asker (navigation rules t fragment asker n url) (navigation rules t fragment asker n other) o
    (navigation_twin rules left r x asker n url other e fragment (opener_front t r x asker n noopener (by x asker (navigation rules t fragment asker n url)) k))) h

gone_agree : (rules : Rules) (left : List Entry) (r x asker doc : ℕ) (url other : List ℕ) (user fragment : Bool) → HasSameOrigin (tree_of left) asker url other
    → IsElsewhere r (url_home_in (tree_of left) (decide rules (tree_of left) (always fragment) x (ask.Go asker doc url user)).entries)
    → Agree r left (decide rules (tree_of left) (always fragment) x (ask.Go asker doc url user)) (decide rules (tree_of left) (always fragment) x (ask.Go asker doc other user))
unfolding decide
gone_agree rules left r x asker doc url other user fragment e h =
    let t : Tree = tree_of left in
    let n : ℕ = nav_of t doc in
    agree_if r left t (is_live t asker doc) (if may_navigate t (nav_of t asker) n user then one x asker (navigation rules t fragment asker n url) reply.Done else one x asker Sync (reply.Security 7))
    (if may_navigate t (nav_of t asker) n user then one x asker (navigation rules t fragment asker n other) reply.Done else one x asker Sync (reply.Security 7)) (one x asker Sync reply.Done)
    (λ k. agree_if r left t (may_navigate t (nav_of t asker) n user) (one x asker (navigation rules t fragment asker n url) reply.Done) (one x asker (navigation rules t fragment asker n other) reply.Done) (one x asker Sync (reply.Security 7))
    (λ l. agree_at r left [] x asker (navigation rules t fragment asker n url) (navigation rules t fragment asker n other) reply.Done
    (navigation_twin rules left r x asker n url other e fragment (at_one r t (by x asker (navigation rules t fragment asker n url)) l))) k) h

linked_agree : (rules : Rules) (left : List Entry) (r x asker : ℕ) (url other name : List ℕ) (noopener user fragment : Bool) → HasSameOrigin (tree_of left) asker url other
    → IsElsewhere r (url_home_in (tree_of left) (decide rules (tree_of left) (always fragment) x (ask.Link asker url name noopener user)).entries)
    → Agree r left (decide rules (tree_of left) (always fragment) x (ask.Link asker url name noopener user)) (decide rules (tree_of left) (always fragment) x (ask.Link asker other name noopener user))
unfolding decide
linked_agree rules left r x asker url other name noopener user fragment e h =
    let t : Tree = tree_of left in
    let c : Choice = choice t (nav_of t asker) name noopener user in
    agree_at r left [] x asker (link_chosen (asking rules t x asker noopener user) (always fragment) url name c) (link_chosen (asking rules t x asker noopener user) (always fragment) other name c) reply.Done
    (link_twin rules left r x asker url other name noopener user fragment e c (at_one r t (by x asker (link_chosen (asking rules t x asker noopener user) (always fragment) url name c)) h))

framed_agree : (rules : Rules) (left : List Entry) (r x asker : ℕ) (url other name : List ℕ) (flags : ℕ) (fragment : Bool) → HasSameOrigin (tree_of left) asker url other → is_none (page_origin url) ≡ is_none (page_origin other)
    → IsElsewhere r (url_home_in (tree_of left) (decide rules (tree_of left) (always fragment) x (ask.Frame asker name flags (Some url))).entries)
    → Agree r left (decide rules (tree_of left) (always fragment) x (ask.Frame asker name flags (Some url))) (decide rules (tree_of left) (always fragment) x (ask.Frame asker name flags (Some other)))
unfolding decide
framed_agree rules left r x asker url other name flags fragment e s h =
    let t : Tree = tree_of left in
    let all : ℕ = union flags (flags_in t (nav_of t asker)) in
    agree_at r left [] x asker (frame_entry rules t asker name all (Some url)) (frame_entry rules t asker name all (Some other)) (reply.Made t.navs)
    (frame_twin rules left r x asker (home_of t asker) (frame_origin (has_origin all) t.docs (origin_of t asker)) name all (group_in t (nav_of t asker)) url other e (is_none (page_origin url)) (is_none (page_origin other)) s
    (at_one r t (by x asker (frame_entry rules t asker name all (Some url))) h))

opened_decided : (rules : Rules) (left : List Entry) (r x asker : ℕ) (url other name : List ℕ) (noopener user fragment : Bool) → HasSameOrigin (tree_of left) asker url other
    → IsElsewhere r (url_home_in (tree_of left) (decide rules (tree_of left) (always fragment) x (ask.Open asker (Some url) name noopener user)).entries)
    → Agree r left (decide rules (tree_of left) (always fragment) x (ask.Open asker (Some url) name noopener user)) (decide rules (tree_of left) (always fragment) x (ask.Open asker (Some other) name noopener user))
unfolding decide
opened_decided rules left r x asker url other name noopener user fragment e h =
    opened_agree rules left r x asker url other name noopener user fragment e (choice (tree_of left) (nav_of (tree_of left) asker) name noopener user) h

message_agree : (rules : Rules) (left : List Entry) (r x asker doc : ℕ) (target other : Target) (body other_body : Data) (fragment : Bool) → (home_of (tree_of left) doc == r) ≡ false
    → Agree r left (decide rules (tree_of left) (always fragment) x (ask.Post asker doc target body)) (decide rules (tree_of left) (always fragment) x (ask.Post asker doc other other_body))
unfolding decide
message_agree rules left r x asker doc target other body other_body fragment h =
    let t : Tree = tree_of left in
    post_agree left r x asker doc (nav_of t asker) (origin_of t asker) target other body other_body h (is_near t asker doc)

-- THE KIND OF A DECISION: whether it makes a fragment navigation is all that it has of URLs

navigation_kind : (rules : Rules) (t : Tree) (asker n : ℕ) (url : List ℕ) (fragment : Bool) → (is_fragment (navigation rules t fragment asker n url) || false) ≡ fragment
navigation_kind rules t asker n url true = refl
navigation_kind rules t asker n url false = refl

front_kind : (rules : Rules) (t : Tree) (r asker to n : ℕ) (url : List ℕ) (test fragment : Bool)
    → has_fragment ((if test then [] else by r asker (Opener n (Some to)) ∷ []) ++ by r asker (navigation rules t fragment asker n url) ∷ []) ≡ fragment
front_kind rules t r asker to n url true fragment = navigation_kind rules t asker n url fragment
front_kind rules t r asker to n url false fragment = navigation_kind rules t asker n url fragment

-- of a decision that depends on a truth value which its entries show
kind_if : (test : Bool) (f : Bool → Decision) (other : Decision) (k : Bool) → ((b : Bool) → has_fragment (f b).entries ≡ b)
    → (if test then f k else other) ≡ (if test then f (has_fragment (if test then f k else other).entries) else other)
kind_if true f other k shows = ap f (sym (shows k))
kind_if false f other k shows = refl

kind_twice : (test both : Bool) (f : Bool → Decision) (other last : Decision) (k : Bool) → ((b : Bool) → has_fragment (f b).entries ≡ b)
    → (if both then (if test then f k else other) else last) ≡ (if both then (if test then f (has_fragment (if both then (if test then f k else other) else last).entries) else other) else last)
kind_twice test true f other last k shows = kind_if test f other k shows
kind_twice test false f other last k shows = refl

opened_kind : (rules : Rules) (t : Tree) (f : ℕ → List ℕ → Bool) (r asker : ℕ) (url : Option (List ℕ)) (name : List ℕ) (noopener user : Bool) (c : Choice)
    → open_chosen (asking rules t r asker noopener user) f url name c ≡ open_chosen (asking rules t r asker noopener user) (always (has_fragment (open_chosen (asking rules t r asker noopener user) f url name c).entries)) url name c
opened_kind rules t f r asker url name noopener user Nothing = refl
opened_kind rules t f r asker url name noopener user New = refl
opened_kind rules t f r asker None name noopener user (Existing n) = refl
opened_kind rules t f r asker (Some url) name noopener user (Existing n) =
    kind_if (may_navigate t (nav_of t asker) n user) (λ b. record { entries = opener_entry t r asker noopener n ++ by r asker (navigation rules t b asker n url) ∷ []; outcome = made_or_null noopener n }) (one r asker Sync (reply.Security 7)) (f n url)
    (λ b. front_kind rules t r asker (nav_of t asker) n url (noopener || n == nav_of t asker) b)

linked_kind : (rules : Rules) (t : Tree) (f : ℕ → List ℕ → Bool) (r asker : ℕ) (url name : List ℕ) (noopener user : Bool) (c : Choice)
    → one r asker (link_chosen (asking rules t r asker noopener user) f url name c) reply.Done
    ≡ one r asker (link_chosen (asking rules t r asker noopener user) (always (is_fragment (link_chosen (asking rules t r asker noopener user) f url name c) || false)) url name c) reply.Done
linked_kind rules t f r asker url name noopener user Nothing = refl
linked_kind rules t f r asker url name noopener user New = refl
linked_kind rules t f r asker url name noopener user (Existing n) = by_may (may_navigate t (nav_of t asker) n user)
  where
    to_url : Bool → What
    to_url b = navigation rules t b asker n url

    by_may : (may : Bool) → one r asker (if may then to_url (f n url) else Sync) reply.Done
        ≡ one r asker (if may then to_url (is_fragment (if may then to_url (f n url) else Sync) || false) else Sync) reply.Done
    by_may true = ap (λ (b : Bool). one r asker (to_url b) reply.Done) (sym (navigation_kind rules t asker n url (f n url)))
    by_may false = refl

decide_kind : (rules : Rules) (t : Tree) (f : ℕ → List ℕ → Bool) (r : ℕ) (q : Request) → decide rules t f r q ≡ decide rules t (always (has_fragment (decide rules t f r q).entries)) r q
unfolding decide
decide_kind rules t f r (ask.Open asker url name noopener user) = opened_kind rules t f r asker url name noopener user (choice t (nav_of t asker) name noopener user)
decide_kind rules t f r (ask.Link asker url name noopener user) = linked_kind rules t f r asker url name noopener user (choice t (nav_of t asker) name noopener user)
decide_kind rules t f r (ask.Go asker doc url user) =
    let n : ℕ = nav_of t doc in
    kind_twice (may_navigate t (nav_of t asker) n user) (is_live t asker doc) (λ b. one r asker (navigation rules t b asker n url) reply.Done) (one r asker Sync (reply.Security 7)) (one r asker Sync reply.Done) (f n url)
    (λ b. navigation_kind rules t asker n url b)
decide_kind rules t f r q = refl

-- EXCHANGES

-- what is asked and answered, by whether the asker is at home there and active
abbrev answered : Rules → Tree → (ℕ → List ℕ → Bool) → ℕ → ℕ → Request → Decision
answered rules t in_fragment place x q =
    if is (home_if_active t (asker_of q)) x then (if is_active t (asker_of q) then decide rules t in_fragment x q else unloaded place) else not_yours t (asker_of q)

answered_kind : (rules : Rules) (t : Tree) (f : ℕ → List ℕ → Bool) (place x : ℕ) (q : Request)
    → answered rules t f place x q ≡ answered rules t (always (has_fragment (answered rules t f place x q).entries)) place x q
answered_kind rules t f place x q = by_tests (is (home_if_active t (asker_of q)) x) (is_active t (asker_of q))
  where
    by_tests : (home active : Bool) → (if home then (if active then decide rules t f x q else unloaded place) else not_yours t (asker_of q))
        ≡ (if home then (if active then decide rules t (always (has_fragment (if home then (if active then decide rules t f x q else unloaded place) else not_yours t (asker_of q)).entries)) x q else unloaded place) else not_yours t (asker_of q))
    by_tests true true = decide_kind rules t f x q
    by_tests true false = refl
    by_tests false active = refl

exchange-answered : (rules : Rules) (log : List Entry) (x : ℕ) (q : Request) → has_no_asker q ≡ false
    → exchange rules log x q ≡ answered rules (tree_of log) (is_in_fragment (tree_of log) (url_of log)) (end_of log (asker_of q)) x q
exchange-answered rules log x q other = exchange-asked rules log x q other
    ∙ ap (λ (d : Decision). if is (home_if_active (tree_of log) (asker_of q)) x then d else not_yours (tree_of log) (asker_of q)) (asked-decided rules log x q)

exchange-kind : (rules : Rules) (log : List Entry) (x : ℕ) (q : Request) → has_no_asker q ≡ false
    → exchange rules log x q ≡ answered rules (tree_of log) (always (has_fragment (made rules log x q))) (end_of log (asker_of q)) x q
exchange-kind rules log x q other =
    let e = exchange-answered rules log x q other in
    e ∙ answered_kind rules (tree_of log) (is_in_fragment (tree_of log) (url_of log)) (end_of log (asker_of q)) x q
    ∙ ap (λ (d : Decision). answered rules (tree_of log) (always (has_fragment d.entries)) (end_of log (asker_of q)) x q) (sym e)

-- the answer on the right log, by what the left log has
answered-right : (rules : Rules) (left right : List Entry) (r x : ℕ) (fragment : Bool) (q : Request) → TwinLogs r left right → has_no_asker q ≡ false → fragment ≡ has_fragment (made rules right x q)
    → exchange rules right x q ≡ answered rules (tree_of left) (always fragment) (end_of left (asker_of q)) x q
answered-right rules left right r x fragment q h other s = exchange-kind rules right x q other ∙ rw (tree_of-twin r left right h, end_of-twin r left right (asker_of q) h, s) refl

asker_same : (rules : Rules) (log : List Entry) (r x : ℕ) (q q' : Request) → Differs rules log r x q q' → (asker_of q ≡ asker_of q') × (has_no_asker q ≡ false) × (has_no_asker q' ≡ false)
unfolding has_no_asker
asker_same rules log r x q q' (Message _ _ _ _ _ _ _) = (refl, refl, refl)
asker_same rules log r x q q' (Gone_to _ _ _ _ _ _) = (refl, refl, refl)
asker_same rules log r x q q' (Linked _ _ _ _ _ _ _) = (refl, refl, refl)
asker_same rules log r x q q' (Opened _ _ _ _ _ _ _) = (refl, refl, refl)
asker_same rules log r x q q' (Framed _ _ _ _ _ _ _) = (refl, refl, refl)

agree_then : (r : ℕ) (left : List Entry) (test : Bool) (a b last : Decision) → Agree r left a b → Agree r left (if test then a else last) (if test then b else last)
agree_then r left true a b last h = h
agree_then r left false a b last h = agree_same r left last

-- where the URL of what is decided is elsewhere
agree_where : (r : ℕ) (left : List Entry) (t : Tree) (home active : Bool) (a b ended foreign : Decision) → (IsElsewhere r (url_home_in t a.entries) → Agree r left a b)
    → IsElsewhere r (url_home_in t (if home then (if active then a else ended) else foreign).entries)
    → Agree r left (if home then (if active then a else ended) else foreign) (if home then (if active then b else ended) else foreign)
agree_where r left t home active a b ended foreign agree h =
    agree_if r left t home (if active then a else ended) (if active then b else ended) foreign (λ k. agree_if r left t active a b ended agree k) h

answered_agree : (rules : Rules) (left : List Entry) (fragment : Bool) (place r x : ℕ) (q q' : Request) → exchange rules left x q ≡ answered rules (tree_of left) (always fragment) place x q → Differs rules left r x q q'
    → Agree r left (answered rules (tree_of left) (always fragment) place x q) (answered rules (tree_of left) (always fragment) place x q')
answered_agree rules left fragment place r x q q' same (Message asker doc target other body other_body h) =
    let t : Tree = tree_of left in
    agree_then r left (is (home_if_active t asker) x) _ _ (not_yours t asker)
    (agree_then r left (is_active t asker) (decide rules t (always fragment) x (ask.Post asker doc target body)) (decide rules t (always fragment) x (ask.Post asker doc other other_body)) (unloaded place)
    (message_agree rules left r x asker doc target other body other_body fragment h))
answered_agree rules left fragment place r x q q' same (Gone_to asker doc url other user h) =
    let t : Tree = tree_of left in
    agree_where r left t (is (home_if_active t asker) x) (is_active t asker) (decide rules t (always fragment) x (ask.Go asker doc url user)) (decide rules t (always fragment) x (ask.Go asker doc other user)) (unloaded place) (not_yours t asker)
    (gone_agree rules left r x asker doc url other user fragment h.0) (subst (λ (d : Decision). IsElsewhere r (url_home_in t d.entries)) same h.1)
answered_agree rules left fragment place r x q q' same (Linked asker url other name noopener user h) =
    let t : Tree = tree_of left in
    agree_where r left t (is (home_if_active t asker) x) (is_active t asker) (decide rules t (always fragment) x (ask.Link asker url name noopener user)) (decide rules t (always fragment) x (ask.Link asker other name noopener user)) (unloaded place) (not_yours t asker)
    (linked_agree rules left r x asker url other name noopener user fragment h.0) (subst (λ (d : Decision). IsElsewhere r (url_home_in t d.entries)) same h.1)
answered_agree rules left fragment place r x q q' same (Opened asker url other name noopener user h) =
    let t : Tree = tree_of left in
    agree_where r left t (is (home_if_active t asker) x) (is_active t asker) (decide rules t (always fragment) x (ask.Open asker (Some url) name noopener user)) (decide rules t (always fragment) x (ask.Open asker (Some other) name noopener user)) (unloaded place) (not_yours t asker)
    (opened_decided rules left r x asker url other name noopener user fragment h.0) (subst (λ (d : Decision). IsElsewhere r (url_home_in t d.entries)) same h.1)
answered_agree rules left fragment place r x q q' same (Framed asker url other name flags s h) =
    let t : Tree = tree_of left in
    agree_where r left t (is (home_if_active t asker) x) (is_active t asker) (decide rules t (always fragment) x (ask.Frame asker name flags (Some url))) (decide rules t (always fragment) x (ask.Frame asker name flags (Some other))) (unloaded place) (not_yours t asker)
    (framed_agree rules left r x asker url other name flags fragment h.0 s) (subst (λ (d : Decision). IsElsewhere r (url_home_in t d.entries)) same h.1)

-- by what both exchanges are
pair_by : (rules : Rules) (left right : List Entry) (r x : ℕ) (q q' : Request) (a b : Decision) → exchange rules left x q ≡ a → exchange rules right x q' ≡ b → Agree r left a b
    → Agree r left (exchange rules left x q) (exchange rules right x q')
pair_by rules left right r x q q' a b is other agree =
    subst (λ (d : Decision). Agree r left (exchange rules left x q) d) (sym other) (subst (λ (d : Decision). Agree r left d b) (sym is) agree)

differs_pair : (rules : Rules) (left right : List Entry) (r x : ℕ) (q q' : Request) → TwinLogs r left right → has_fragment (made rules left x q) ≡ has_fragment (made rules right x q')
    → Differs rules left r x q q' → Agree r left (exchange rules left x q) (exchange rules right x q')
differs_pair rules left right r x q q' h s d =
    let f : Bool = has_fragment (made rules left x q) in
    let same = asker_same rules left r x q q' d in
    let place : end_of left (asker_of q') ≡ end_of left (asker_of q) = ap (end_of left) (sym same.0) in
    let answer : exchange rules right x q' ≡ answered rules (tree_of left) (always f) (end_of left (asker_of q)) x q' =
    answered-right rules left right r x f q' h same.2 s ∙ ap (λ (n : ℕ). answered rules (tree_of left) (always f) n x q') place in
    let kind : exchange rules left x q ≡ answered rules (tree_of left) (always f) (end_of left (asker_of q)) x q = exchange-kind rules left x q same.1 in
    pair_by rules left right r x q q' _ _ kind answer (answered_agree rules left f (end_of left (asker_of q)) r x q q' kind d)

-- equal requests that no document makes
no_asker_pair : (rules : Rules) (left right : List Entry) (r x : ℕ) (q : Request) → TwinLogs r left right → HomesStay left → has_no_asker q ≡ true
    → Agree r left (exchange rules left x q) (exchange rules right x q)
unfolding has_no_asker
no_asker_pair rules left right r x ask.Next h stay e = next_pair rules left right r x h stay
no_asker_pair rules left right r x ask.More h stay e = rw (more_gives rules left x, more_gives rules right x) (agree_same r left rest_told)
no_asker_pair rules left right r x q h stay e = absurd (false≢true e)

-- equal requests
same_pair : (rules : Rules) (left right : List Entry) (r x : ℕ) (q : Request) → TwinLogs r left right → HomesStay left → has_fragment (made rules left x q) ≡ has_fragment (made rules right x q)
    → (no_asker : Bool) → has_no_asker q ≡ no_asker → Agree r left (exchange rules left x q) (exchange rules right x q)
same_pair rules left right r x q h stay s false e =
    let f : Bool = has_fragment (made rules left x q) in
    pair_by rules left right r x q q _ _ (exchange-kind rules left x q e) (answered-right rules left right r x f q h e s) (agree_same r left (answered rules (tree_of left) (always f) (end_of left (asker_of q)) x q))
same_pair rules left right r x q h stay s true e = no_asker_pair rules left right r x q h stay e

-- one exchange of any renderer on twin logs of r: the outcomes are the same, and the logs after it are twin logs
pub exchange-twin : (rules : Rules) (left right : List Entry) (r x : ℕ) (q q' : Request) → TwinLogs r left right → HomesStay left → IsAlike rules left right r x q q'
    → ((exchange rules left x q).outcome ≡ (exchange rules right x q').outcome) × TwinLogs r ((exchange rules left x q).entries ++ left) ((exchange rules right x q').entries ++ right)
exchange-twin rules left right r x q q' h stay alike =
    let a : Agree r left (exchange rules left x q) (exchange rules right x q') =
    elim (alike.alike) as (λ _. Agree r left (exchange rules left x q) (exchange rules right x q')) [
      | inl e ↦ subst (λ (z : Request). has_fragment (made rules left x q) ≡ has_fragment (made rules right x z) → Agree r left (exchange rules left x q) (exchange rules right x z)) e
          (λ s. same_pair rules left right r x q h stay s (has_no_asker q) refl) alike.same_kind
      | inr d ↦ differs_pair rules left right r x q q' h alike.same_kind d.2
    ] in
    (a.outcome, a.logs right h)
