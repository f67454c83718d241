-- What belongs to a document's group: it stays so on a longer log, and children and attributes of a window of the group are of it too.
use Rattle.std.proofs.Common.{◌≡◌, ℕ, zero, suc, ◌<◌, List, [], ◌∷◌, ◌++◌, Option, Some, None, Bool, true, false, refl, ap, sym, subst, ◌∙◌, if◌then◌else◌, arith}
use Rattle.std.specs.Prelude.{◌==◌, ◌||◌, not, filter, find, slice_get, option_and_then, option_map, bytes_eq, unwrap_or}
use Rattle.std.proofs.lemmas.Bool.{false≢true, eqb-true, eq-eqb}
use Rattle.origin_core.specs.Origin.{is_same_origin}
use Rattle.window_props.specs.declared.value.Method.{Method}
use Rattle.window_props.specs.declared.value.Value.{Value}
use Rattle.window_props.specs.declared.value.Value.TheVariants as value
use Rattle.window_props.specs.declared.descriptor.Body.{Body}
use Rattle.window_props.specs.declared.descriptor.Body.TheVariants as body
use Rattle.window_props.specs.declared.descriptor.Descriptor.{Descriptor}
use Rattle.window_props.specs.declared.platform.Object.{Object}
use Rattle.window_props.specs.declared.platform.Platform.{Platform}
use Rattle.window_props.specs.declared.platform.Platform.TheVariants as platform_name
use Rattle.window_props.specs.Platform.{named, method_of, role_of, has_setter, is_writable, made_by_platform, platform}
use Rattle.window_props.specs.History.{Store, store_of}
use Rattle.tree_log.specs.declared.entry.Entry.{Entry}
use Rattle.tree_log.specs.Tree.{Tree, tree_of, tree_after, tree_of_step, embedder, nav_of, origin_of, is_active, is_discarded, root_of, parent_of, top_level_of, group_of, children_of, are_same, same_group}
use Rattle.tree_log.specs.NamedChildren.{child_named}
use Rattle.tree_log.specs.Admits.{admits, AreAdmitted}
use Rattle.coordinator_rules.specs.Navigation.{is_in}
use Rattle.object_access.specs.Registers.{unset}
use Rattle.object_access.specs.StepAnswer.{first_stores}
use Rattle.object_access.specs.Values.{null, window_or}
use Rattle.object_access.specs.WindowAccess.{window_value}
use Rattle.single_agent.specs.Shown.{document_of}
use Rattle.agent_laws.specs.Wellness.{IsWell}
use Rattle.agent_laws.specs.Belonging.{Belongs, RegistersBelong, BodyBelongs, PropertyBelongs, StoresBelong, IsClosed}
use Rattle.agent_laws.proofs.Logs.Lists.{find_step, in_below}
use Rattle.agent_laws.proofs.Groups.Well.{more_docs, more_navs, admitted_well}
use Rattle.agent_laws.proofs.Groups.Choices.{root_below, root_is_top, has_group, children_below}
use Rattle.agent_laws.proofs.Logs.Older.{group_of_doc, group_stays, group_of_doc_stays, group_of_child, group_of_top}

-- GROUPS

same_is_equal : (a b : Option ℕ) → are_same a b ≡ true → a ≡ b
same_is_equal None b h = absurd (false≢true h)
same_is_equal (Some m) None h = absurd (false≢true h)
same_is_equal (Some m) (Some n) h = ap Some (sym (eqb-true n m h))

equal_is_same : (a b : Option ℕ) (g : ℕ) → a ≡ Some g → a ≡ b → are_same a b ≡ true
equal_is_same a b g some e = subst (λ (o : Option ℕ). are_same a o ≡ true) e (subst (λ (o : Option ℕ). are_same o o ≡ true) (sym some) (eq-eqb g g refl))

pub group_same : (t : Tree) (a b : ℕ) → same_group t a b ≡ true → group_of t a ≡ group_of t b
group_same t a b h = same_is_equal (group_of t a) (group_of t b) h

pub same_from : (t : Tree) → IsWell t → (a b : ℕ) → a < t.navs → group_of t a ≡ group_of t b → same_group t a b ≡ true
same_from t well a b lt h = let some = has_group t well a lt in equal_is_same (group_of t a) (group_of t b) some.0 some.1 h

pub same_self : (t : Tree) → IsWell t → (a : ℕ) → a < t.navs → same_group t a a ≡ true
same_self t well a lt = same_from t well a a lt refl

pub same_back : (t : Tree) (a b : ℕ) → same_group t a b ≡ true → same_group t b a ≡ true
same_back t a b h =
    let e : group_of t a ≡ group_of t b = group_same t a b h in
    subst (λ (o : Option ℕ). are_same (group_of t b) o ≡ true) (sym e) (subst (λ (o : Option ℕ). are_same o (group_of t b) ≡ true) e h)

pub same_through : (t : Tree) (a b c : ℕ) → same_group t a b ≡ true → same_group t b c ≡ true → same_group t a c ≡ true
same_through t a b c h k = subst (λ (o : Option ℕ). are_same (group_of t a) o ≡ true) (group_same t b c k) h

-- WHAT BELONGS

pub belongs_itself : (t : Tree) → IsWell t → (d : ℕ) → d < t.docs → Belongs t d (value.Window (nav_of t d))
belongs_itself t well d lt = (lt, well.below d lt, same_self t well (nav_of t d) (well.below d lt))

pub belongs_with : (t : Tree) (d e : ℕ) (v : Value) → d < t.docs → same_group t (nav_of t d) (nav_of t e) ≡ true → Belongs t e v → Belongs t d v
belongs_with t d e (value.Window n) lt same b = (lt, b.1, same_through t (nav_of t d) (nav_of t e) n same b.2)
belongs_with t d e (value.Location x) lt same b = (lt, b.1, same_through t (nav_of t d) (nav_of t e) (nav_of t x) same b.2)
belongs_with t d e v lt same b = tt

-- LONGER LOGS

same_with : (a b x y : Option ℕ) → a ≡ x → b ≡ y → are_same x y ≡ true → are_same a b ≡ true
same_with a b x y e k h = ap (λ (o : Option ℕ). are_same o b) e ∙ ap (are_same x) k ∙ h

pub belongs_after : (t : Tree) (e : Entry) (d : ℕ) (v : Value) → admits t e ≡ true → IsWell t → Belongs t d v → Belongs (tree_after t e) d v
belongs_after t e d (value.Window n) h well b =
    let doc : d < t.docs = b.0 in
    let nav : n < t.navs = b.1 in (
      omega (arith, more_docs t e),
      omega (arith, more_navs t e),
      same_with (group_of_doc (tree_after t e) d) (group_of (tree_after t e) n) (group_of_doc t d) (group_of t n) (group_of_doc_stays t e h well d doc) (group_stays t e h well n nav) b.2,
    )
belongs_after t e d (value.Location x) h well b =
    let doc : d < t.docs = b.0 in
    let other : x < t.docs = b.1 in (
      omega (arith, more_docs t e),
      omega (arith, more_docs t e),
      same_with (group_of_doc (tree_after t e) d) (group_of_doc (tree_after t e) x) (group_of_doc t d) (group_of_doc t x) (group_of_doc_stays t e h well d doc) (group_of_doc_stays t e h well x other) b.2,
    )
belongs_after t e d v h well b = tt

pub belongs_grown : (more log : List Entry) (d : ℕ) (v : Value) → AreAdmitted (more ++ log) → Belongs (tree_of log) d v → Belongs (tree_of (more ++ log)) d v
belongs_grown [] log d v all b = b
belongs_grown (e ∷ older) log d v all b =
    subst (λ (t : Tree). Belongs t d v) (sym (tree_of_step e (older ++ log)))
    (belongs_after (tree_of (older ++ log)) e d v all.0 (admitted_well (older ++ log) all.1) (belongs_grown older log d v all.1 b))

pub registers_grown : (more log : List Entry) (registers : ℕ → List ℕ → Value) → AreAdmitted (more ++ log) → RegistersBelong (tree_of log) registers → RegistersBelong (tree_of (more ++ log)) registers
registers_grown more log registers all h = λ d name. belongs_grown more log d (registers d name) all (h d name)

body_grown : (more log : List Entry) (d : ℕ) (b : Body) → AreAdmitted (more ++ log) → BodyBelongs (tree_of log) d b → BodyBelongs (tree_of (more ++ log)) d b
body_grown more log d (body.Value v writable) all h = belongs_grown more log d v all h
body_grown more log d (body.Accessor get set) all h = tt

property_grown : (more log : List Entry) (d : ℕ) (p : Option Descriptor) → AreAdmitted (more ++ log) → PropertyBelongs (tree_of log) d p → PropertyBelongs (tree_of (more ++ log)) d p
property_grown more log d None all h = tt
property_grown more log d (Some p) all h = body_grown more log d p.body all h

pub stores_grown : (more log : List Entry) (stores : Object → Store) → AreAdmitted (more ++ log) → StoresBelong (tree_of log) stores → StoresBelong (tree_of (more ++ log)) stores
stores_grown more log stores all h = λ o key. property_grown more log (document_of o) ((stores o).at key) all (h o key)

-- CHILDREN

in_rest : (a b : Bool) → b ≡ true → (a || b) ≡ true
in_rest true b h = refl
in_rest false b h = h

first_in : (x c : ℕ) (xs : List ℕ) → x ≡ c → is_in c (x ∷ xs) ≡ true
first_in x c xs e = rw (eq-eqb x c e) refl

got_in : (c : ℕ) (xs : List ℕ) (i : ℕ) → slice_get xs i ≡ Some c → is_in c xs ≡ true
got_in c [] i h = absurd cc
got_in c (x ∷ xs) zero h = first_in x c xs (let same : Some x ≡ Some c = h in cc)
got_in c (x ∷ xs) (suc i) h = in_rest (x == c) (is_in c xs) (got_in c xs i h)

found_in : (p : ℕ → Bool) (c : ℕ) (xs : List ℕ) → find p xs ≡ Some c → is_in c xs ≡ true
found_in p c [] h = absurd cc
found_in p c (x ∷ xs) h = found_here (p x) refl (λ k. found_in p c xs k)
  where
    found_here : (b : Bool) → p x ≡ b → (find p xs ≡ Some c → is_in c xs ≡ true) → is_in c (x ∷ xs) ≡ true
    found_here true k later = first_in x c xs (let same : Some x ≡ Some c = sym (find_step p x xs true k) ∙ h in cc)
    found_here false k later = in_rest (x == c) (is_in c xs) (later (sym (find_step p x xs false k) ∙ h))

filter_in : (p : ℕ → Bool) (c : ℕ) (xs : List ℕ) → is_in c (filter p xs) ≡ true → is_in c xs ≡ true
filter_in p c [] h = h
filter_in p c (x ∷ xs) h = in_front (p x) h (λ k. filter_in p c xs k)
  where
    in_either : (b : Bool) → (b || is_in c (filter p xs)) ≡ true → (is_in c (filter p xs) ≡ true → is_in c xs ≡ true) → (b || is_in c xs) ≡ true
    in_either true k later = refl
    in_either false k later = later k

    in_front : (b : Bool) → is_in c (if b then x ∷ filter p xs else filter p xs) ≡ true → (is_in c (filter p xs) ≡ true → is_in c xs ≡ true) → is_in c (x ∷ xs) ≡ true
    in_front true k later = in_either (x == c) k later
    in_front false k later = in_rest (x == c) (is_in c xs) (later k)

child_in : (t : Tree) (d c : ℕ) → is_in c (children_of t d) ≡ true → is_in c (t.frames d) ≡ true
unfolding children_of
child_in t d c h = shown_in (is_active t d) h
  where
    shown_in : (b : Bool) → is_in c (if b then filter (λ n. not (t.nav n).dropped) (t.frames d) else []) ≡ true → is_in c (t.frames d) ≡ true
    shown_in true k = filter_in (λ n. not (t.nav n).dropped) c (t.frames d) k
    shown_in false k = absurd (false≢true k)

in_belongs : (t : Tree) → IsClosed t → (d n c : ℕ) → Belongs t d (value.Window n) → is_in c (children_of t (t.nav n).active) ≡ true → Belongs t d (value.Window c)
in_belongs t closed d n c b here =
    let child : group_of t c ≡ group_of t n = group_of_child t closed.well c (t.nav n).active (closed.frames (t.nav n).active c (child_in t (t.nav n).active c here)) ∙ ap (group_of t) (closed.well.placed n b.1) in
    (b.0, in_below t.navs c (children_of t (t.nav n).active) (children_below t closed.well (t.nav n).active) here, same_through t (nav_of t d) n c b.2 (same_from t closed.well n c b.1 (sym child)))

pub child_belongs : (t : Tree) → IsClosed t → (d n i c : ℕ) → Belongs t d (value.Window n) → slice_get (children_of t (t.nav n).active) i ≡ Some c → Belongs t d (value.Window c)
child_belongs t closed d n i c b is = in_belongs t closed d n c b (got_in c (children_of t (t.nav n).active) i is)

named_in : (t : Tree) (d c : ℕ) (name : List ℕ) → child_named t d name ≡ Some c → is_in c (children_of t d) ≡ true
unfolding child_named
named_in t d c [] h = absurd cc
named_in t d c (x ∷ xs) h = first_named (find (λ n. bytes_eq (t.nav n).name (x ∷ xs)) (children_of t d)) refl h
  where
    open_to : (y : ℕ) (b : Bool) → find (λ n. bytes_eq (t.nav n).name (x ∷ xs)) (children_of t d) ≡ Some y → (if b then Some y else None) ≡ Some c → is_in c (children_of t d) ≡ true
    open_to y true e k = found_in (λ n. bytes_eq (t.nav n).name (x ∷ xs)) c (children_of t d) (e ∙ k)
    open_to y false e k = absurd cc

    first_named : (o : Option ℕ) → find (λ n. bytes_eq (t.nav n).name (x ∷ xs)) (children_of t d) ≡ o
        → option_and_then (λ n. if is_same_origin (origin_of t d) (origin_of t (t.nav n).active) then Some n else None) o ≡ Some c → is_in c (children_of t d) ≡ true
    first_named None e k = absurd cc
    first_named (Some y) e k = open_to y (is_same_origin (origin_of t d) (origin_of t (t.nav y).active)) e k

pub named_belongs : (t : Tree) → IsClosed t → (d n : ℕ) (name : List ℕ) (c : ℕ) → Belongs t d (value.Window n) → child_named t (t.nav n).active name ≡ Some c → Belongs t d (value.Window c)
named_belongs t closed d n name c b is = in_belongs t closed d n c b (named_in t (t.nav n).active c name is)

-- ATTRIBUTES

group_of_root : (t : Tree) → IsWell t → (n : ℕ) → group_of t (root_of t n) ≡ group_of t n
unfolding group_of
group_of_root t well n = group_of_top t (root_of t n) (root_is_top t well n)

top_belongs : (t : Tree) → IsClosed t → (d n : ℕ) → Belongs t d (value.Window n) → (out : Bool) → Belongs t d (window_or null (if out then None else Some (root_of t n)))
top_belongs t closed d n b true = tt
top_belongs t closed d n b false = (b.0, root_below t closed.well n b.1, same_through t (nav_of t d) n (root_of t n) b.2 (same_from t closed.well n (root_of t n) b.1 (sym (group_of_root t closed.well n))))

parent_belongs : (t : Tree) → IsClosed t → (d n : ℕ) → Belongs t d (value.Window n) → (out gone : Bool) (o : Option ℕ) → embedder t n ≡ o
    → Belongs t d (if out then null else value.Window (unwrap_or (if gone then None else elim o as (λ _. Option ℕ) [ None ↦ None | Some x ↦ Some (nav_of t x) ]) n))
parent_belongs t closed d n b true gone o e = tt
parent_belongs t closed d n b false true o e = b
parent_belongs t closed d n b false false None e = b
parent_belongs t closed d n b false false (Some x) e =
    (b.0, closed.well.below x (closed.well.up n x e).0, same_through t (nav_of t d) n (nav_of t x) b.2 (same_from t closed.well n (nav_of t x) b.1 (group_of_child t closed.well n x e)))

opener_belongs : (t : Tree) → IsClosed t → (d n : ℕ) → Belongs t d (value.Window n) → (out : Bool) (o : Option ℕ) → (t.nav n).opener ≡ o → Belongs t d (if out then null else window_or null o)
opener_belongs t closed d n b true o e = tt
opener_belongs t closed d n b false None e = tt
opener_belongs t closed d n b false (Some m) e = let there = closed.openers n m e in (b.0, there.1, same_through t (nav_of t d) n m b.2 there.2)

pub attribute_belongs : (t : Tree) → IsClosed t → (d n : ℕ) → Belongs t d (value.Window n) → (name : Platform) → Belongs t d (window_value t n name)
unfolding window_value top_level_of parent_of
attribute_belongs t closed d n b platform_name.Window = b
attribute_belongs t closed d n b platform_name.Itself = b
attribute_belongs t closed d n b platform_name.Frames = b
attribute_belongs t closed d n b platform_name.Location = (b.0, closed.well.active n b.1, subst (λ (m : ℕ). same_group t (nav_of t d) m ≡ true) (sym (closed.well.placed n b.1)) b.2)
attribute_belongs t closed d n b platform_name.Top = top_belongs t closed d n b (is_discarded t n)
attribute_belongs t closed d n b platform_name.Parent = parent_belongs t closed d n b (is_discarded t n) (is_discarded t n) (embedder t n) refl
attribute_belongs t closed d n b platform_name.Opener = opener_belongs t closed d n b (is_discarded t n) (t.nav n).opener refl
attribute_belongs t closed d n b _ = tt

-- AT THE START

pub no_registers : (t : Tree) → RegistersBelong t unset
no_registers t = λ d name. tt

made_belongs : (t : Tree) (d : ℕ) (o : Object) (name : Platform) (m : Option Method)
    → BodyBelongs t d (elim m as (λ _. Body) [ Some m ↦ body.Value (value.Function m o) (is_writable o) | None ↦ body.Accessor true (has_setter (role_of o name)) ])
made_belongs t d o _ None = tt
made_belongs t d o _ (Some m) = tt

named_made : (t : Tree) (d : ℕ) (o : Object) (name : Option Platform) → PropertyBelongs t d (option_map (made_by_platform o) name)
unfolding made_by_platform
named_made t d o None = tt
named_made t d o (Some name) = made_belongs t d o name (method_of name)

pub platform_stores : (t : Tree) → StoresBelong t first_stores
unfolding store_of platform
platform_stores t = λ o key. named_made t (document_of o) o (named o key)
