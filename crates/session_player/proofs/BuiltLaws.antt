-- A session whose steps are all built leaves built steps. Of these a `sync`, a `frame` and a `drop` may ask, and no other.
use Rattle.std.proofs.Common.{◌≡◌, ℕ, suc, zero, List, [], ◌∷◌, Option, Some, None, Bool, true, false, refl, subst}
use Rattle.std.specs.Prelude.{Result, Ok, Err, ◌||◌, ◌&&◌, find, slice_get, option_and_then, All, if◌then◌else◌}
use Rattle.std.specs.Option.{option_map}
use Rattle.std.proofs.lemmas.Bool.{not-true}
use Rattle.std.proofs.lemmas.List.Elements.{All-nil, All-head, All-tail}
use Rattle.origin_core.specs.Flags.{has_scripts}
use Rattle.origin_core.specs.declared.page.UrlError.{UrlError}
use Rattle.origin_core.specs.declared.page.UrlError.TheVariants as url
use Rattle.window_props.specs.declared.key.Key.{Key}
use Rattle.window_props.specs.declared.value.Value.{Value}
use Rattle.window_props.specs.declared.value.Value.TheVariants as value
use Rattle.window_props.specs.declared.value.Method.{Method}
use Rattle.window_props.specs.declared.value.Method.TheVariants as method
use Rattle.window_props.specs.declared.descriptor.Body.{Body}
use Rattle.window_props.specs.declared.descriptor.Body.TheVariants as body
use Rattle.window_props.specs.declared.descriptor.Descriptor.{Descriptor}
use Rattle.window_props.specs.declared.descriptor.Change.{Change}
use Rattle.window_props.specs.declared.platform.Object.{Object}
use Rattle.window_props.specs.declared.platform.Object.TheVariants as object
use Rattle.window_props.specs.declared.platform.Platform.{Platform}
use Rattle.window_props.specs.declared.platform.Platform.TheVariants.{Location, Name, Opener, Href, Close, Focus, Blur, PostMessage, Assign, Replace}
use Rattle.window_props.specs.declared.props.SetAnswer.{SetAnswer}
use Rattle.window_props.specs.declared.props.SetAnswer.TheVariants as settled
use Rattle.window_props.specs.Keys.{same_key}
use Rattle.window_props.specs.Platform.{key_of, names_of, named, method_of}
use Rattle.window_props.specs.Values.{same_method, same_object}
use Rattle.window_props.specs.Ordinary.{Define, Set, Delete}
use Rattle.window_props.specs.History.{Store, answer_in}
use Rattle.tree_log.specs.declared.entry.Entry.{Entry}
use Rattle.tree_log.specs.Log.{prefix}
use Rattle.tree_log.specs.Tree.{Tree, tree_of, is_active, nav_of}
use Rattle.tree_log.specs.Urls.{url_of}
use Rattle.agent_terms.specs.declared.session.Session.{Session}
use Rattle.agent_terms.specs.declared.session.Page.{Page}
use Rattle.agent_terms.specs.declared.step.Operand.{Operand}
use Rattle.agent_terms.specs.declared.step.Step.{Step}
use Rattle.agent_terms.specs.declared.step.Step.TheVariants as step
use Rattle.agent_terms.specs.declared.act.Act.{Act}
use Rattle.agent_terms.specs.declared.act.Performed.TheVariants.{Ask}
use Rattle.agent_terms.specs.declared.act.Point.{Point}
use Rattle.agent_terms.specs.declared.act.Point.TheVariants.{Script, Handler}
use Rattle.agent_terms.specs.declared.act.Running.{Running}
use Rattle.agent_terms.specs.declared.outcome.Outcome.{Outcome}
use Rattle.agent_terms.specs.declared.outcome.Outcome.TheVariants as outcome
use Rattle.agent_terms.specs.declared.outcome.Rule.{Rule}
use Rattle.agent_terms.specs.declared.outcome.Rule.TheVariants.{S3, S4}
use Rattle.agent_terms.specs.declared.request.Request.{Request}
use Rattle.agent_terms.specs.declared.request.Request.TheVariants as request
use Rattle.single_agent.specs.Session.{steps_in, steps_at, steps_of}
use Rattle.object_access.specs.Access as access
use Rattle.object_access.specs.Access.{Seen, foreign_property}
use Rattle.object_access.specs.WindowAccess.{set_by, window_set, window_of, window}
use Rattle.object_access.specs.LocationAccess.{location_set, location}
use Rattle.object_access.specs.Methods.{if_own, built_in, run, run_found, run_got, called}
use Rattle.object_access.specs.StepAnswer.{Sight, held, operand_value, object_of, performed, on_object, frame_at, frame_step, drop_step, perform, step_stores}
use Rattle.single_agent.specs.Running.{Left, made_before, left_at, left_on, step_left, running}
use Rattle.single_agent.specs.Lengths.{newest_length}
use Rattle.agent_terms.specs.Built.{asks_where_set, asks_where_called, is_built, IsBuilt, is_made, HasBuilt, AreBuilt}

-- THE STEPS OF A SESSION

-- what holds of all holds of the one that is found
chosen : {A : Type 0} (P : A → Type 0) (b : Bool) (y x : A) (rest : Option A) → P y → (rest ≡ Some x → P x) → (if b then Some y else rest) ≡ Some x → P x
chosen P true y x rest here later e = let same : y ≡ x = cc in subst P same here
chosen P false y x rest here later e = later e

all_found : {A : Type 0} (P : A → Type 0) (test : A → Bool) (xs : List A) (x : A) → All P xs → find test xs ≡ Some x → P x
all_found P test [] x all h = absurd cc
all_found P test (y ∷ ys) x all h = chosen P (test y) y x (find test ys) (All-head P y ys all) (λ e. all_found P test ys x (All-tail P y ys all) e) h

all_at : {A : Type 0} (P : A → Type 0) (xs : List A) (i : ℕ) (x : A) → All P xs → slice_get xs i ≡ Some x → P x
all_at P [] i x all h = absurd cc
all_at P (y ∷ ys) zero x all h = let same : y ≡ x = cc in subst P same (All-head P y ys all)
all_at P (y ∷ ys) (suc i) x all h = all_at P ys i x (All-tail P y ys all) h

built_in_page : (point : Point) (page : Option Page) → ((p : Page) → page ≡ Some p → HasBuilt p) → All IsBuilt (steps_in point page)
built_in_page point None h = All-nil IsBuilt
built_in_page (Script made) (Some p) h = (h p refl).script
built_in_page (Handler place made) (Some p) h = (h p refl).handler

pub built_at : (s : Session) (url : List ℕ) (point : Point) → AreBuilt s → All IsBuilt (steps_at s url point)
unfolding steps_at
built_at s url point all = built_in_page point (find _ s.pages) (λ p e. all_found HasBuilt _ s.pages p all.0 e)

pub built_of : (s : Session) (t : Tree) (urls : ℕ → List ℕ) (d : ℕ) (point : Point) → AreBuilt s → All IsBuilt (steps_of s t urls d point)
unfolding steps_of
built_of s t urls d point all = either (has_scripts (t.nav (nav_of t d)).made.flags) where
  either : (b : Bool) → All IsBuilt (if b then [] else steps_at s (urls d) point)
  either true = All-nil IsBuilt
  either false = built_at s (urls d) point all

pub built_on : (s : Session) (t : Tree) (urls : ℕ → List ℕ) (run : Running) (left : Left) → AreBuilt s → left_on s t urls run ≡ Some left → is_built left.step ≡ true
built_on s t urls run left all h = here (is_active t run.doc) h where
  taken : (found : Option Step) → slice_get (steps_of s t urls run.doc run.point) (made_before run.point) ≡ found → option_map (left_at run) found ≡ Some left → is_built left.step ≡ true
  taken None at e = absurd cc
  taken (Some step) at e =
      let same : left_at run step ≡ left = cc in
      subst (λ (l : Left). is_built l.step ≡ true) same (all_at IsBuilt (steps_of s t urls run.doc run.point) (made_before run.point) step (built_of s t urls run.doc run.point all) at)

  here : (b : Bool) → (if b then option_map (left_at run) (slice_get (steps_of s t urls run.doc run.point) (made_before run.point)) else None) ≡ Some left → is_built left.step ≡ true
  here true e = taken (slice_get (steps_of s t urls run.doc run.point) (made_before run.point)) refl e
  here false e = absurd cc

pub built_for : (s : Session) (t : Tree) (urls : ℕ → List ℕ) (run : Option Running) (left : Left) → AreBuilt s → option_and_then (left_on s t urls) run ≡ Some left → is_built left.step ≡ true
built_for s t urls None left all h = absurd cc
built_for s t urls (Some run) left all h = built_on s t urls run left all h

pub built_left : (s : Session) (log : List Entry) (acts : List Act) (left : Left) → AreBuilt s → step_left s log acts ≡ Some left → is_built left.step ≡ true
unfolding step_left
built_left s log acts left all h = built_for s (tree_of (prefix (newest_length acts) log)) (url_of (prefix (newest_length acts) log)) (running log acts) left all h

-- WHAT ACCESSES COME TO

abbrev asks : Outcome → Bool
asks (outcome.Ask a) = true
asks _ = false

no_request : (d : ℕ) (user : Bool) (o : Outcome) (q : Request) → asks o ≡ false → performed d user o ≡ Ask q → ⊥
no_request d user (outcome.Ask a) q h e = absurd cc
no_request d user o q h e = absurd cc

if_none_asks : (b : Bool) (x y : Outcome) → asks x ≡ false → asks y ≡ false → asks (if b then x else y) ≡ false
if_none_asks true x y h k = h
if_none_asks false x y h k = k

got_answers : (seen : Seen) (props : Store) (key : Key) → asks (access.got seen props key) ≡ false
unfolding access.got
got_answers seen props key = if_none_asks seen.own _ _ refl (foreign (foreign_property seen key)) where
  by : (b : Body) → asks (elim b as (λ _. Outcome) [ body.Value v _ ↦ outcome.Value v | body.Accessor get _ ↦ if get then outcome.Value (seen.getter key) else outcome.Security S3 ]) ≡ false
  by (body.Value v writable) = refl
  by (body.Accessor get set) = if_none_asks get _ _ refl refl

  foreign : (r : Result Descriptor Rule) → asks (access.got_foreign seen key r) ≡ false
  foreign (Err rule) = refl
  foreign (Ok p) = by p.body

has_answers : (seen : Seen) (props : Store) (key : Key) → asks (access.has seen props key) ≡ false
unfolding access.has
has_answers seen props key = if_none_asks seen.own _ _ refl (foreign (foreign_property seen key)) where
  foreign : (r : Result Descriptor Rule) → asks (access.has_foreign r) ≡ false
  foreign (Err rule) = refl
  foreign (Ok p) = refl

described_answers : (seen : Seen) (props : Store) (key : Key) → asks (access.described seen props key) ≡ false
unfolding access.described
described_answers seen props key = if_none_asks seen.own _ _ refl (foreign (foreign_property seen key)) where
  foreign : (r : Result Descriptor Rule) → asks (access.described_foreign r) ≡ false
  foreign (Err rule) = refl
  foreign (Ok p) = refl

keys_answers : (seen : Seen) (props : Store) → asks (access.keys seen props) ≡ false
unfolding access.keys
keys_answers seen props = refl

prototype_answers : (seen : Seen) → asks (access.prototype seen) ≡ false
unfolding access.prototype
prototype_answers seen = refl

truth_answers : (a : SetAnswer) → asks (access.truth_of a) ≡ false
truth_answers (settled.Truth b) = refl
truth_answers settled.Setter = refl
truth_answers settled.TypeFault = refl

-- at an index, or by the properties
index_answers : (i : Option ℕ) (at : ℕ → Outcome) (a : SetAnswer) → ((n : ℕ) → asks (at n) ≡ false) → asks (elim i as (λ _. Outcome) [ Some n ↦ at n | None ↦ access.truth_of a ]) ≡ false
index_answers (Some n) at a h = h n
index_answers None at a h = truth_answers a

defined_answers : (seen : Seen) (props : Store) (key : Key) (change : Change) → asks (access.defined seen props key change) ≡ false
unfolding access.defined
defined_answers seen props key change = if_none_asks seen.own _ _ (index_answers (seen.index key) (λ n. outcome.Truth false) (answer_in props (access.call_of key (Define change))) (λ n. refl)) refl

deleted_answers : (seen : Seen) (props : Store) (key : Key) → asks (access.deleted seen props key) ≡ false
unfolding access.deleted
deleted_answers seen props key = if_none_asks seen.own _ _ (index_answers (seen.index key) (λ n. outcome.Truth _) (answer_in props (access.call_of key Delete)) (λ n. refl)) refl

-- a set asks only where the setter does
set_answers : (seen : Seen) (props : Store) (key : Key) (v : Value) → asks (seen.setter key v) ≡ false → asks (access.set seen props key v) ≡ false
unfolding access.set
set_answers seen props key v h = if_none_asks seen.own _ _ (at (seen.index key)) (foreign (foreign_property seen key)) where
  own : (a : SetAnswer) → asks (access.settled_own seen key v a) ≡ false
  own (settled.Truth b) = refl
  own settled.Setter = h
  own settled.TypeFault = refl

  at : (i : Option ℕ) → asks (elim i as (λ _. Outcome) [ Some n ↦ outcome.Truth false | None ↦ access.settled_own seen key v (answer_in props (access.call_of key (Set v))) ]) ≡ false
  at (Some n) = refl
  at None = own (answer_in props (access.call_of key (Set v)))

  by : (b : Body) → asks (elim b as (λ _. Outcome) [ body.Value _ _ ↦ outcome.Security S4 | body.Accessor _ set ↦ if set then seen.setter key v else outcome.Security S4 ]) ≡ false
  by (body.Value w writable) = refl
  by (body.Accessor get set) = if_none_asks set _ _ h refl

  foreign : (r : Result Descriptor Rule) → asks (access.set_foreign seen key v r) ≡ false
  foreign (Err rule) = refl
  foreign (Ok p) = by p.body

-- SETTERS AND METHODS

found_passes : (test : Platform → Bool) (names : List Platform) (name : Platform) → find test names ≡ Some name → test name ≡ true
found_passes test [] found h = absurd cc
found_passes test (x ∷ xs) name h = by (test x) refl h (λ e. found_passes test xs name e) where
  by : (b : Bool) → test x ≡ b → (if b then Some x else find test xs) ≡ Some name → (find test xs ≡ Some name → test name ≡ true) → test name ≡ true
  by true t e later = let same : x ≡ name = cc in subst (λ (p : Platform). test p ≡ true) same t
  by false t e later = later e

named_there : (o : Object) (key : Key) (name : Platform) → named o key ≡ Some name → same_key (key_of name) key ≡ true
unfolding named
named_there o key name e = found_passes (λ p. same_key (key_of p) key) (names_of o) name e

none_of_four : (a b c d : Bool) → a || b || c || d ≡ false → (a ≡ false) × (b ≡ false) × (c ≡ false) × (d ≡ false)
none_of_four true b c d h = absurd cc
none_of_four false true c d h = absurd cc
none_of_four false false true d h = absurd cc
none_of_four false false false d h = (refl, refl, refl, h)

set_by_answers : (o : Object) (key : Key) (f : Platform → Outcome) → ((name : Platform) → same_key (key_of name) key ≡ true → asks (f name) ≡ false) → asks (set_by (named o key) f) ≡ false
set_by_answers o key f h = by (named o key) refl where
  by : (found : Option Platform) → named o key ≡ found → asks (set_by found f) ≡ false
  by None e = refl
  by (Some name) e = h name (named_there o key name e)

-- under a key that doesn't ask where it is set
module _ (key : Key) (quiet : asks_where_set key ≡ false) where
  others : (same_key (key_of Location) key ≡ false) × (same_key (key_of Name) key ≡ false) × (same_key (key_of Opener) key ≡ false) × (same_key (key_of Href) key ≡ false)
  others = none_of_four _ _ _ _ quiet

  window_set_answers : (t : Tree) (urls : ℕ → List ℕ) (asker d : ℕ) (v : Value) (name : Platform) → same_key (key_of name) key ≡ true → asks (window_set t urls asker d name v) ≡ false
  unfolding window_set
  window_set_answers t urls asker d v Location e = let other = others.0 in absurd cc
  window_set_answers t urls asker d v Name e = let other = others.1 in absurd cc
  window_set_answers t urls asker d v Opener e = let other = others.2 in absurd cc
  window_set_answers t urls asker d v _ e = refl

  location_set_answers : (t : Tree) (urls : ℕ → List ℕ) (asker d : ℕ) (v : Value) (name : Platform) → same_key (key_of name) key ≡ true → asks (location_set t urls asker d name v) ≡ false
  unfolding location_set
  location_set_answers t urls asker d v Href e = let other = others.3 in absurd cc
  location_set_answers t urls asker d v _ e = refl

  window_answers : (t : Tree) (urls : ℕ → List ℕ) (asker n : ℕ) (props : Store) (v : Value) → asks (access.set (window t urls asker n) props key v) ≡ false
  unfolding window_of
  window_answers t urls asker n props v =
      set_answers (window t urls asker n) props key v (set_by_answers (object.Window (t.nav n).active) key _ (window_set_answers t urls asker (t.nav n).active v))

  location_answers : (t : Tree) (urls : ℕ → List ℕ) (asker d : ℕ) (props : Store) (v : Value) → asks (access.set (location t urls asker d) props key v) ≡ false
  unfolding location
  location_answers t urls asker d props v = set_answers (location t urls asker d) props key v (set_by_answers (object.Location d) key _ (location_set_answers t urls asker d v))

-- focus and blur
abbrev is_quiet : Method → Bool
is_quiet method.Focus = true
is_quiet method.Blur = true
is_quiet _ = false

run_answers : (t : Tree) (urls : ℕ → List ℕ) (asker : ℕ) (o : Object) (m : Method) (args : List Value) → is_quiet m ≡ true → asks (run t urls asker o m args) ≡ false
run_answers t urls asker (object.Window d) method.Focus args h = refl
run_answers t urls asker (object.Window d) method.Blur args h = refl
run_answers t urls asker (object.Location d) method.Focus args h = refl
run_answers t urls asker (object.Location d) method.Blur args h = refl
run_answers t urls asker o _ args h = absurd cc

own_is : (o of : Object) (m own : Method) (found : Option Method) → if_own o of m found ≡ Some own → found ≡ Some own
own_is o of m own None h = h
own_is o of m own (Some x) h = by (same_method m x && same_object of o) h where
  by : (b : Bool) → (if b then Some x else None) ≡ Some own → Some x ≡ Some own
  by true e = e
  by false e = absurd cc

-- under a key that doesn't ask where it is called
module _ (key : Key) (quiet : asks_where_called key ≡ false) where
  other_keys : (same_key (key_of Close) key ≡ false) × (same_key (key_of PostMessage) key ≡ false) × (same_key (key_of Assign) key ≡ false) × (same_key (key_of Replace) key ≡ false)
  other_keys = none_of_four _ _ _ _ quiet

  name_quiet : (name : Platform) (m : Method) → same_key (key_of name) key ≡ true → method_of name ≡ Some m → is_quiet m ≡ true
  name_quiet Close m e h = let other = other_keys.0 in absurd cc
  name_quiet PostMessage m e h = let other = other_keys.1 in absurd cc
  name_quiet Assign m e h = let other = other_keys.2 in absurd cc
  name_quiet Replace m e h = let other = other_keys.3 in absurd cc
  name_quiet Focus m e h = let same : method.Focus ≡ m = cc in subst (λ (x : Method). is_quiet x ≡ true) same refl
  name_quiet Blur m e h = let same : method.Blur ≡ m = cc in subst (λ (x : Method). is_quiet x ≡ true) same refl
  name_quiet _ m e h = absurd cc

  found_quiet : (o : Object) (m : Method) (found : Option Platform) → named o key ≡ found → option_and_then method_of found ≡ Some m → is_quiet m ≡ true
  found_quiet o m None e h = absurd cc
  found_quiet o m (Some name) e h = name_quiet name m (named_there o key name e) h

  own_quiet : (o : Object) (v : Value) (m : Method) → built_in o key v ≡ Some m → is_quiet m ≡ true
  unfolding built_in
  own_quiet o (value.Function x of) m h = found_quiet o m (named o key) refl (own_is o of x m (option_and_then method_of (named o key)) h)
  own_quiet o _ m h = absurd cc

  found_answers : (t : Tree) (urls : ℕ → List ℕ) (asker : ℕ) (o : Object) (args : List Value) (found : Option Method) → ((m : Method) → found ≡ Some m → is_quiet m ≡ true) → asks (run_found t urls asker o args found) ≡ false
  found_answers t urls asker o args None h = refl
  found_answers t urls asker o args (Some m) h = run_answers t urls asker o m args (h m refl)

  run_got_answers : (t : Tree) (urls : ℕ → List ℕ) (asker : ℕ) (o : Object) (args : List Value) (given : Outcome) → asks given ≡ false → asks (run_got t urls asker o key args given) ≡ false
  run_got_answers t urls asker o args (outcome.Value v) h = found_answers t urls asker o args (built_in o key v) (own_quiet o v)
  run_got_answers t urls asker o args given h = h

  called_answers : (t : Tree) (urls : ℕ → List ℕ) (asker : ℕ) (seen : Seen) (props : Store) (args : List Value) → asks (called t urls asker seen props key args) ≡ false
  unfolding called
  called_answers t urls asker seen props args = run_got_answers t urls asker seen.object args (access.got seen props key) (got_answers seen props key)

-- WHAT BUILT STEPS ASK

module _ (see : Sight) (d : ℕ) (q : Request) where
  -- on a Window or a Location
  met_answers : (user : Bool) (of : List ℕ) (f : Seen → Outcome) → ((n : ℕ) → asks (f (window see.tree see.urls d n)) ≡ false) → ((e : ℕ) → asks (f (location see.tree see.urls d e)) ≡ false)
      → on_object see d user of f ≡ Ask q → ⊥
  unfolding on_object
  met_answers user of f windows locations h = by (held see d of) h where
    by : (v : Value) → performed d user (elim (object_of see d v) as (λ _. Outcome) [ None ↦ outcome.TypeFault | Some seen ↦ f seen ]) ≡ Ask q → ⊥
    by (value.Window n) e = no_request d user (f (window see.tree see.urls d n)) q (windows n) e
    by (value.Location x) e = no_request d user (f (location see.tree see.urls d x)) q (locations x) e
    by _ e = no_request d user outcome.TypeFault q refl e

  each_answers : (user : Bool) (of : List ℕ) (f : Seen → Outcome) → ((seen : Seen) → asks (f seen) ≡ false) → on_object see d user of f ≡ Ask q → ⊥
  each_answers user of f h e = met_answers user of f (λ n. h (window see.tree see.urls d n)) (λ x. h (location see.tree see.urls d x)) e

  no_set : (of : List ℕ) (key : Key) (given : Operand) (user : Bool) → is_built (step.Set of key given user) ≡ true → perform see d (step.Set of key given user) ≡ Ask q → ⊥
  unfolding is_built perform
  no_set of key given user built e =
      let quiet = not-true (asks_where_set key) built in
      met_answers user of (λ seen. access.set seen (see.stores seen.object) key (operand_value see d given)) (λ n. window_answers key quiet see.tree see.urls d n _ _) (λ x. location_answers key quiet see.tree see.urls d x _ _) e

  no_define : (of : List ℕ) (key : Key) (given : Option Operand) (writable enumerable configurable : Option Bool) → perform see d (step.Define of key given writable enumerable configurable) ≡ Ask q → ⊥
  unfolding perform
  no_define of key given writable enumerable configurable e = each_answers false of _ (λ seen. defined_answers seen (see.stores seen.object) key _) e

  no_delete : (of : List ℕ) (key : Key) → perform see d (step.Delete of key) ≡ Ask q → ⊥
  unfolding perform
  no_delete of key e = each_answers false of _ (λ seen. deleted_answers seen (see.stores seen.object) key) e

  no_call : (of : List ℕ) (key : Key) (args : List Operand) (to : Option (List ℕ)) (user : Bool) → is_built (step.Call of key args to user) ≡ true → perform see d (step.Call of key args to user) ≡ Ask q → ⊥
  unfolding is_built perform
  no_call of key args to user built e = each_answers user of _ (λ seen. called_answers key (not-true (asks_where_called key) built) see.tree see.urls d seen (see.stores seen.object) _) e

  made_is : (p : Request) → is_made p ≡ true → Ask p ≡ Ask q → is_made q ≡ true
  made_is p h e = let same : p ≡ q = cc in subst (λ (x : Request). is_made x ≡ true) same h

  frame_made : (name : List ℕ) (flags : ℕ) (page : Option (List ℕ)) → Ask (request.Frame d name flags page) ≡ Ask q → is_made q ≡ true
  unfolding is_made
  frame_made name flags page e = made_is (request.Frame d name flags page) refl e

  read_made : (name : List ℕ) (flags : ℕ) (r : Result (List ℕ) UrlError) → frame_at d name flags r ≡ Ask q → is_made q ≡ true
  read_made name flags (Ok page) e = frame_made name flags (Some page) e
  read_made name flags (Err url.SchemeOut) e = absurd cc
  read_made name flags (Err _) e = frame_made name flags None e

  framed_made : (name : List ℕ) (flags : ℕ) (text : Option (List ℕ)) → frame_step see d name flags text ≡ Ask q → is_made q ≡ true
  unfolding frame_step
  framed_made name flags None e = frame_made name flags None e
  framed_made name flags (Some text) e = read_made name flags _ e

  dropped_made : (nav : Option ℕ) → drop_step d nav ≡ Ask q → is_made q ≡ true
  unfolding is_made
  dropped_made None e = absurd cc
  dropped_made (Some n) e = made_is (request.Drop d n) refl e

  made_by : (st : Step) → is_built st ≡ true → perform see d st ≡ Ask q → is_made q ≡ true
  unfolding is_built is_made perform
  made_by (step.Let to given) built e = absurd cc
  made_by (step.Get of key to) built e = absurd (each_answers false of _ (λ seen. got_answers seen (see.stores seen.object) key) e)
  made_by (step.Has of key) built e = absurd (each_answers false of _ (λ seen. has_answers seen (see.stores seen.object) key) e)
  made_by (step.Describe of key) built e = absurd (each_answers false of _ (λ seen. described_answers seen (see.stores seen.object) key) e)
  made_by (step.Keys of) built e = absurd (each_answers false of _ (λ seen. keys_answers seen (see.stores seen.object)) e)
  made_by (step.Proto of) built e = absurd (each_answers false of _ prototype_answers e)
  made_by (step.SetProto of) built e = absurd (each_answers false of _ (λ seen. refl) e)
  made_by (step.Extensible of) built e = absurd (each_answers false of _ (λ seen. refl) e)
  made_by (step.Prevent of) built e = absurd (each_answers false of _ (λ seen. refl) e)
  made_by (step.Set of key given user) built e = absurd (no_set of key given user built e)
  made_by (step.Define of key given writable enumerable configurable) built e = absurd (no_define of key given writable enumerable configurable e)
  made_by (step.Delete of key) built e = absurd (no_delete of key e)
  made_by (step.Call of key args to user) built e = absurd (no_call of key args to user built e)
  made_by step.Sync built e = made_is (request.Sync d) refl e
  made_by (step.Frame text name sandbox to) built e = framed_made _ _ _ e
  made_by (step.Drop index) built e = dropped_made _ e
  made_by (step.Open text target noopener user to) built e = absurd cc
  made_by (step.Link text target rel user) built e = absurd cc
  made_by (step.Domain text) built e = absurd cc

  stays : (st : Step) → is_built st ≡ true → perform see d st ≡ Ask q → step_stores see d st ≡ see.stores
  unfolding step_stores
  stays (step.Set of key given user) built e = absurd (no_set of key given user built e)
  stays (step.Define of key given writable enumerable configurable) built e = absurd (no_define of key given writable enumerable configurable e)
  stays (step.Delete of key) built e = absurd (no_delete of key e)
  stays _ built e = refl

-- what a built step asks is what built steps make
pub made_by_built : (see : Sight) (d : ℕ) (st : Step) (q : Request) → is_built st ≡ true → perform see d st ≡ Ask q → is_made q ≡ true
made_by_built see d st q built e = made_by see d q st built e

-- a built step that asks leaves the properties as they are
pub unchanged_by_asking : (see : Sight) (d : ℕ) (st : Step) (q : Request) → is_built st ≡ true → perform see d st ≡ Ask q → step_stores see d st ≡ see.stores
unchanged_by_asking see d st q built e = stays see d q st built e
