-- Documents of one group and one origin have one home, and an entry that makes documents keeps it so.
use Rattle.std.proofs.Common.{◌≡◌, ℕ, ◌<◌, ◌≤◌, List, [], ◌∷◌, ◌++◌, Option, Some, None, Bool, true, false, refl, ap, ◌∙◌, sym, eq-eqb, arith, inl, inr, subst}
use Rattle.std.specs.Prelude.{◌⊎◌, find, ◌%◌, ◌&&◌}
use Rattle.std.proofs.lemmas.Bool.{false≢true, cases_lt}
use Rattle.std.proofs.lemmas.Slice.Eq.{bytes_eq-Decides}
use Rattle.origin_core.specs.declared.origin.Origin.{Origin}
use Rattle.origin_core.specs.declared.origin.Origin.TheVariants.{Tuple, Opaque}
use Rattle.origin_core.specs.declared.origin.Scheme.{Scheme}
use Rattle.origin_core.specs.declared.origin.Scheme.TheVariants.{Http, Https}
use Rattle.origin_core.specs.declared.site.Site.{Site}
use Rattle.origin_core.specs.declared.site.Site.TheVariants as site
use Rattle.origin_core.specs.Origin.{is_same_scheme}
use Rattle.origin_core.specs.Tuple.{TupleParts}
use Rattle.origin_core.specs.Site.{site_of, site_host, fits, IsDomainOf, own as own_host, relaxed}
use Rattle.origin_core.proofs.SameDomainLaw.{IsRelaxed, same_cases}
use Rattle.origin_core.proofs.DomainLaw.{one_site_of}
use Rattle.origin_core.proofs.PageHost.{HasWebHost}
use Rattle.tree_log.specs.Facts.{Birth}
use Rattle.tree_log.specs.Tree.{Tree, home_of, origin_of, domain_of, same_domain}
use Rattle.tree_log.specs.Tree.{is as is_group}
use Rattle.tree_log.specs.Homes.{is_same_site, is_of, pairs, home_for}
use Rattle.coordinator_rules.specs.Decision.{Rules, effective_domain, is_address}
use Rattle.agent_laws.specs.Wellness.{AllBelow}
use Rattle.log_laws.specs.Homes.{is_loaded}
use Rattle.agent_laws.proofs.Logs.Lists.{more_below, last_below, found_below, find_step}
use Rattle.agent_laws.proofs.Logs.Older.{group_of_doc}

own_scheme : (s : Scheme) → is_same_scheme s s ≡ true
own_scheme Http = refl
own_scheme Https = refl

same_site_itself : (s : Site) → is_same_site s s ≡ true
same_site_itself (site.Named scheme host) = rw (own_scheme scheme, (bytes_eq-Decides host host).1 refl) refl
same_site_itself (site.Opaque n) = eq-eqb n n refl

-- WHAT HOLDS

-- a new document would have the origin, the home and the group of the loaded document a
pub record IsLike (t : Tree) (origin : Origin) (home : ℕ) (group : Option ℕ) (a : ℕ) : Type 0 where
  pub there : a < t.docs
  pub was_loaded : is_loaded t a ≡ true
  pub same_origin : origin ≡ origin_of t a
  pub same_home : home ≡ home_of t a
  pub same_group : group ≡ group_of_doc t a

-- the first loaded document of the group and the site of x has the home of x
pub record IsHomedFirst (rules : Rules) (t : Tree) (x : ℕ) : Type 0 where
  pub group : ℕ
  pub in_group : group_of_doc t x ≡ Some group
  pub first : ℕ
  pub is_first : find (is_of rules.suffixes t group (site_of (origin_of t x) rules.suffixes)) t.loads ≡ Some first
  pub one_home : home_of t first ≡ home_of t x

-- an opaque origin was made for a document that is there, and if that is an initial one, only it has the origin
abbrev pub IsOwn : Tree → ℕ → ℕ → Type 0
IsOwn t x k = (k < t.docs) × (is_loaded t k ≡ false → k ≡ x)

-- loaded documents are homed by their group and site; an initial one has an origin of its own or is like its creator; and the
-- domain of each document is one that its host may have come to
pub record AreHomed (rules : Rules) (t : Tree) : Type 0 where
  pub below : AllBelow t.docs t.loads
  pub first : (x : ℕ) → x < t.docs → is_loaded t x ≡ true → IsHomedFirst rules t x
  pub initial : (x : ℕ) → x < t.docs → is_loaded t x ≡ false → (origin_of t x ≡ Opaque x) ⊎ ((a : ℕ) × IsLike t (origin_of t x) (home_of t x) (group_of_doc t x) a)
  pub own : (x k : ℕ) → x < t.docs → origin_of t x ≡ Opaque k → IsOwn t x k
  pub hosts : (x : ℕ) (tuple : TupleParts) → x < t.docs → origin_of t x ≡ Tuple tuple → HasWebHost tuple.host tuple.ip
  pub unset : (x : ℕ) → t.docs ≤ x → domain_of t x ≡ None
  pub domains : (x : ℕ) (tuple : TupleParts) (domain : List ℕ) → x < t.docs → origin_of t x ≡ Tuple tuple → domain_of t x ≡ Some domain → IsDomainOf tuple.host tuple.ip rules.suffixes domain

-- an opaque origin is that of the document d, or of a loaded one that was there
abbrev pub IsOriginFit : Tree → ℕ → Origin → Type 0
IsOriginFit t d origin = (k : ℕ) → origin ≡ Opaque k → (k ≡ d) ⊎ ((a : ℕ) × (a < t.docs) × (is_loaded t a ≡ true) × (origin_of t a ≡ Opaque k))

-- a tuple origin has the host of a URL, or is that of a document that was there
abbrev pub IsHostFit : Tree → Origin → Type 0
IsHostFit t origin = (tuple : TupleParts) → origin ≡ Tuple tuple → HasWebHost tuple.host tuple.ip ⊎ ((a : ℕ) × (a < t.docs) × (origin_of t a ≡ Tuple tuple))

-- a document keeps its domain, or has one that fits its effective domain
abbrev pub MayHave : Rules → Tree → ℕ → Option (List ℕ) → Type 0
MayHave rules t d domain =
    (domain ≡ domain_of t d)
    ⊎ ((value : List ℕ) × (effective : List ℕ) × (domain ≡ Some value) × (effective_domain (origin_of t d) (domain_of t d) ≡ Some effective)
    × (fits value effective (is_address (origin_of t d)) rules.suffixes ≡ true))

-- a new document d of the tree s
pub data IsNewDoc (rules : Rules) (t s : Tree) (d : ℕ) : Type 0 where
  Initial_own : is_loaded s d ≡ false → origin_of s d ≡ Opaque d → IsNewDoc rules t s d
  Initial_like : (a : ℕ) → is_loaded s d ≡ false → IsLike t (origin_of s d) (home_of s d) (group_of_doc s d) a → IsNewDoc rules t s d
  Loaded_new : (group : ℕ) → is_loaded s d ≡ true → group_of_doc s d ≡ Some group → home_of s d ≡ home_for rules.renderers rules.suffixes t group (site_of (origin_of s d) rules.suffixes)
      → IsOriginFit t d (origin_of s d) → IsHostFit t (origin_of s d) → s.loads ≡ t.loads ++ d ∷ [] → IsNewDoc rules t s d

-- the tree s has the documents of t, and new ones; at most one of these was loaded
pub record IsGrown (rules : Rules) (t s : Tree) : Type 0 where
  pub docs : t.docs ≤ s.docs
  pub born : (d : ℕ) → d < t.docs → (s.doc d).born ≡ (t.doc d).born
  pub group : (d : ℕ) → d < t.docs → group_of_doc s d ≡ group_of_doc t d
  pub new : (d : ℕ) → t.docs ≤ d → d < s.docs → IsNewDoc rules t s d
  pub unset : (d : ℕ) → t.docs ≤ d → domain_of s d ≡ domain_of t d
  pub set : (d : ℕ) → d < t.docs → MayHave rules t d (domain_of s d)
  pub loads : (s.loads ≡ t.loads) ⊎ ((d : ℕ) × (t.docs ≤ d) × (d < s.docs) × (s.loads ≡ t.loads ++ d ∷ []))

-- ONE HOME

-- two loaded documents of one group and site have one home
loaded_home : (rules : Rules) (t : Tree) → AreHomed rules t → (a b : ℕ) → a < t.docs → b < t.docs → is_loaded t a ≡ true → is_loaded t b ≡ true
    → group_of_doc t a ≡ group_of_doc t b → site_of (origin_of t a) rules.suffixes ≡ site_of (origin_of t b) rules.suffixes → home_of t a ≡ home_of t b
loaded_home rules t homed a b la lb a_loaded b_loaded g o =
    let fa : IsHomedFirst rules t a = homed.first a la a_loaded in
    let fb : IsHomedFirst rules t b = homed.first b lb b_loaded in
    let groups : Some fa.group ≡ Some fb.group = sym fa.in_group ∙ g ∙ fb.in_group in
    let one_group : fa.group ≡ fb.group = cc in
    let found : Some fa.first ≡ Some fb.first =
    sym fa.is_first
    ∙ ap (λ (n : ℕ). find (is_of rules.suffixes t n (site_of (origin_of t a) rules.suffixes)) t.loads) one_group
    ∙ ap (λ (z : Site). find (is_of rules.suffixes t fb.group z) t.loads) o
    ∙ fb.is_first in
    let one : fa.first ≡ fb.first = cc in
    sym fa.one_home ∙ ap (home_of t) one ∙ fb.one_home

-- a document is an initial one with an origin of its own, or like a loaded one
like_loaded : (rules : Rules) (t : Tree) → AreHomed rules t → (x : ℕ) → x < t.docs → (b : Bool) → is_loaded t x ≡ b
    → ((is_loaded t x ≡ false) × (origin_of t x ≡ Opaque x)) ⊎ ((a : ℕ) × IsLike t (origin_of t x) (home_of t x) (group_of_doc t x) a)
like_loaded rules t homed x lt true e = inr (x, record { there = lt; was_loaded = e; same_origin = refl; same_home = refl; same_group = refl })
like_loaded rules t homed x lt false e =
    elim (homed.initial x lt e) as (λ _. ((is_loaded t x ≡ false) × (origin_of t x ≡ Opaque x)) ⊎ ((a : ℕ) × IsLike t (origin_of t x) (home_of t x) (group_of_doc t x) a)) [ inl o ↦ inl (e, o) | inr l ↦ inr l ]

-- documents of one group and one origin have one home
same_home : (rules : Rules) (t : Tree) → AreHomed rules t → (x y : ℕ) → x < t.docs → y < t.docs → group_of_doc t x ≡ group_of_doc t y → origin_of t x ≡ origin_of t y → home_of t x ≡ home_of t y
same_home rules t homed x y lx ly g o =
    elim (like_loaded rules t homed x lx (is_loaded t x) refl) as (λ _. home_of t x ≡ home_of t y) [
      | inl i ↦ ap (home_of t) ((homed.own y x ly (sym o ∙ i.1)).1 i.0)
      | inr a ↦
          elim (like_loaded rules t homed y ly (is_loaded t y) refl) as (λ _. home_of t x ≡ home_of t y) [
            | inl i ↦ ap (home_of t) (sym ((homed.own x y lx (o ∙ i.1)).1 i.0))
            | inr b ↦
                a.1.same_home
                ∙ loaded_home rules t homed a.0 b.0 a.1.there b.1.there a.1.was_loaded b.1.was_loaded (sym a.1.same_group ∙ g ∙ b.1.same_group)
                (ap (λ (z : Origin). site_of z rules.suffixes) (sym a.1.same_origin ∙ o ∙ b.1.same_origin))
                ∙ sym b.1.same_home
          ]
    ]

-- a document with a tuple origin is like a loaded one
tuple_like : (rules : Rules) (t : Tree) → AreHomed rules t → (x : ℕ) (tuple : TupleParts) → x < t.docs → origin_of t x ≡ Tuple tuple → (a : ℕ) × IsLike t (origin_of t x) (home_of t x) (group_of_doc t x) a
tuple_like rules t homed x tuple lt o =
    elim (like_loaded rules t homed x lt (is_loaded t x) refl) as (λ _. (a : ℕ) × IsLike t (origin_of t x) (home_of t x) (group_of_doc t x) a) [
      | inl i ↦ let clash : Tuple tuple ≡ Opaque x = sym o ∙ i.1 in absurd cc
      | inr like ↦ like
    ]

-- documents of one scheme and one domain have hosts of one site
one_site : (rules : Rules) (t : Tree) → AreHomed rules t → (x y : ℕ) → x < t.docs → y < t.docs → (r : IsRelaxed (origin_of t x) (origin_of t y) (domain_of t x) (domain_of t y))
    → site_of (origin_of t x) rules.suffixes ≡ site_of (origin_of t y) rules.suffixes
one_site rules t homed x y lx ly r =
    let host : site_host r.first.host r.first.ip rules.suffixes ≡ site_host r.second.host r.second.ip rules.suffixes =
    one_site_of rules.suffixes r.domain r.first.host r.second.host r.first.ip r.second.ip (homed.hosts x r.first lx r.first_is) (homed.hosts y r.second ly r.second_is)
    (homed.domains x r.first r.domain lx r.first_is r.first_domain) (homed.domains y r.second r.domain ly r.second_is r.second_domain) in
    ap (λ (o : Origin). site_of o rules.suffixes) r.first_is
    ∙ ap (λ (scheme : Scheme). site.Named scheme (site_host r.first.host r.first.ip rules.suffixes)) r.scheme
    ∙ ap (λ (h : List ℕ). site.Named r.second.scheme h) host
    ∙ ap (λ (o : Origin). site_of o rules.suffixes) (sym r.second_is)

relaxed_home : (rules : Rules) (t : Tree) → AreHomed rules t → (x y : ℕ) → x < t.docs → y < t.docs → group_of_doc t x ≡ group_of_doc t y
    → IsRelaxed (origin_of t x) (origin_of t y) (domain_of t x) (domain_of t y) → home_of t x ≡ home_of t y
relaxed_home rules t homed x y lx ly g r =
    let a = tuple_like rules t homed x r.first lx r.first_is in
    let b = tuple_like rules t homed y r.second ly r.second_is in
    a.1.same_home
    ∙ loaded_home rules t homed a.0 b.0 a.1.there b.1.there a.1.was_loaded b.1.was_loaded (sym a.1.same_group ∙ g ∙ b.1.same_group)
    (ap (λ (z : Origin). site_of z rules.suffixes) (sym a.1.same_origin) ∙ one_site rules t homed x y lx ly r ∙ ap (λ (z : Origin). site_of z rules.suffixes) b.1.same_origin)
    ∙ sym b.1.same_home

-- documents of one group that are same origin-domain have one home
pub one_home : (rules : Rules) (t : Tree) → AreHomed rules t → (x y : ℕ) → x < t.docs → y < t.docs → group_of_doc t x ≡ group_of_doc t y
    → same_domain t x y ≡ true → home_of t x ≡ home_of t y
one_home rules t homed x y lx ly g s =
    elim (same_cases (origin_of t x) (origin_of t y) (domain_of t x) (domain_of t y) s) as (λ _. home_of t x ≡ home_of t y) [
      | inl o ↦ same_home rules t homed x y lx ly g o
      | inr r ↦ relaxed_home rules t homed x y lx ly g r
    ]

-- IT STAYS SO

find_same_below : (n : ℕ) (p q : ℕ → Bool) → ((x : ℕ) → x < n → p x ≡ q x) → (xs : List ℕ) → AllBelow n xs → find p xs ≡ find q xs
find_same_below n p q h [] b = refl
find_same_below n p q h (x ∷ xs) b = rw (h x b.0, find_same_below n p q h xs b.1) refl

find_front : (p : ℕ → Bool) (y : ℕ) (xs ys : List ℕ) → find p xs ≡ Some y → find p (xs ++ ys) ≡ Some y
find_front p y [] ys e = absurd cc
find_front p y (x ∷ xs) ys e = front_here (p x) refl (λ k. find_front p y xs ys (sym (find_step p x xs false k) ∙ e))
  where
    front_here : (b : Bool) → p x ≡ b → (p x ≡ false → find p (xs ++ ys) ≡ Some y) → find p (x ∷ (xs ++ ys)) ≡ Some y
    front_here true k later = find_step p x (xs ++ ys) true k ∙ sym (find_step p x xs true k) ∙ e
    front_here false k later = find_step p x (xs ++ ys) false k ∙ later k

find_back : (p : ℕ → Bool) (xs ys : List ℕ) → find p xs ≡ None → find p (xs ++ ys) ≡ find p ys
find_back p [] ys e = refl
find_back p (x ∷ xs) ys e = back_here (p x) refl (λ k. find_back p xs ys (sym (find_step p x xs false k) ∙ e))
  where
    back_here : (b : Bool) → p x ≡ b → (p x ≡ false → find p (xs ++ ys) ≡ find p ys) → find p (x ∷ (xs ++ ys)) ≡ find p ys
    back_here true k later = let same : Some x ≡ None = sym (find_step p x xs true k) ∙ e in absurd cc
    back_here false k later = find_step p x (xs ++ ys) false k ∙ later k

origin_kept : (rules : Rules) (t s : Tree) → IsGrown rules t s → (d : ℕ) → d < t.docs → origin_of s d ≡ origin_of t d
origin_kept rules t s grown d lt = ap (λ (b : Birth). b.origin) (grown.born d lt)

home_kept : (rules : Rules) (t s : Tree) → IsGrown rules t s → (d : ℕ) → d < t.docs → home_of s d ≡ home_of t d
home_kept rules t s grown d lt = ap (λ (b : Birth). b.home) (grown.born d lt)

loaded_kept : (rules : Rules) (t s : Tree) → IsGrown rules t s → (d : ℕ) → d < t.docs → is_loaded s d ≡ is_loaded t d
loaded_kept rules t s grown d lt = ap (λ (b : Birth). b.loaded) (grown.born d lt)

-- the test of an older document by group and site
is_of_kept : (rules : Rules) (t s : Tree) → IsGrown rules t s → (g : ℕ) (at : Site) (x : ℕ) → x < t.docs → is_of rules.suffixes s g at x ≡ is_of rules.suffixes t g at x
is_of_kept rules t s grown g at x lt =
    ap (λ (o : Option ℕ). is_group o g && is_same_site (site_of (origin_of s x) rules.suffixes) at) (grown.group x lt)
    ∙ ap (λ (o : Origin). is_group (group_of_doc t x) g && is_same_site (site_of o rules.suffixes) at) (origin_kept rules t s grown x lt)

find_kept : (rules : Rules) (t s : Tree) → AreHomed rules t → IsGrown rules t s → (g : ℕ) (at : Site) → find (is_of rules.suffixes s g at) t.loads ≡ find (is_of rules.suffixes t g at) t.loads
find_kept rules t s homed grown g at = find_same_below t.docs (is_of rules.suffixes s g at) (is_of rules.suffixes t g at) (is_of_kept rules t s grown g at) t.loads homed.below

first_kept : (rules : Rules) (t s : Tree) → AreHomed rules t → IsGrown rules t s → (g : ℕ) (at : Site) (y : ℕ) → find (is_of rules.suffixes t g at) t.loads ≡ Some y → find (is_of rules.suffixes s g at) s.loads ≡ Some y
first_kept rules t s homed grown g at y e =
    let front : find (is_of rules.suffixes s g at) t.loads ≡ Some y = find_kept rules t s homed grown g at ∙ e in
    elim (grown.loads) as (λ _. find (is_of rules.suffixes s g at) s.loads ≡ Some y) [
      | inl same ↦ ap (find (is_of rules.suffixes s g at)) same ∙ front
      | inr more ↦ ap (find (is_of rules.suffixes s g at)) more.3 ∙ find_front (is_of rules.suffixes s g at) y t.loads (more.0 ∷ []) front
    ]

home_from : Rules → Tree → Option ℕ → ℕ
home_from rules t (Some d) = home_of t d
home_from rules t None = pairs rules.suffixes t [] t.loads % rules.renderers

home_for_found : (rules : Rules) (t : Tree) (g : ℕ) (at : Site) (found : Option ℕ) → find (is_of rules.suffixes t g at) t.loads ≡ found → home_for rules.renderers rules.suffixes t g at ≡ home_from rules t found
unfolding home_for home_from
home_for_found rules t g at found e = ap (home_from rules t) e

new_first : (rules : Rules) (t s : Tree) → AreHomed rules t → IsGrown rules t s → (d g : ℕ) → group_of_doc s d ≡ Some g
    → home_of s d ≡ home_for rules.renderers rules.suffixes t g (site_of (origin_of s d) rules.suffixes) → s.loads ≡ t.loads ++ d ∷ []
    → (o : Option ℕ) → find (is_of rules.suffixes t g (site_of (origin_of s d) rules.suffixes)) t.loads ≡ o → IsHomedFirst rules s d
unfolding home_from
new_first rules t s homed grown d g in_group h l (Some y) e = record {
  group = g;
  in_group = in_group;
  first = y;
  is_first = first_kept rules t s homed grown g (site_of (origin_of s d) rules.suffixes) y e;
  one_home = home_kept rules t s grown y (found_below t.docs (is_of rules.suffixes t g (site_of (origin_of s d) rules.suffixes)) y t.loads homed.below e)
      ∙ sym (h ∙ home_for_found rules t g (site_of (origin_of s d) rules.suffixes) (Some y) e);
}
new_first rules t s homed grown d g in_group h l None e =
    let test : ℕ → Bool = is_of rules.suffixes s g (site_of (origin_of s d) rules.suffixes) in
    let here : test d ≡ true = rw (in_group, eq-eqb g g refl, same_site_itself (site_of (origin_of s d) rules.suffixes)) refl in
    let back : find test (t.loads ++ d ∷ []) ≡ Some d = find_back test t.loads (d ∷ []) (find_kept rules t s homed grown g (site_of (origin_of s d) rules.suffixes) ∙ e) ∙ find_step test d [] true here in
    record { group = g; in_group = in_group; first = d; is_first = ap (find test) l ∙ back; one_home = refl }

first_new : (rules : Rules) (t s : Tree) → AreHomed rules t → IsGrown rules t s → (d : ℕ) → IsNewDoc rules t s d → is_loaded s d ≡ true → IsHomedFirst rules s d
first_new rules t s homed grown d (Initial_own f o) e = absurd (false≢true (sym f ∙ e))
first_new rules t s homed grown d (Initial_like a f l) e = absurd (false≢true (sym f ∙ e))
first_new rules t s homed grown d (Loaded_new g f in_group h o host l) e = new_first rules t s homed grown d g in_group h l (find (is_of rules.suffixes t g (site_of (origin_of s d) rules.suffixes)) t.loads) refl

like_kept : (rules : Rules) (t s : Tree) → IsGrown rules t s → (o : Origin) (h : ℕ) (g : Option ℕ) (a : ℕ) → IsLike t o h g a → IsLike s o h g a
like_kept rules t s grown o h g a l =
    let lt : a < t.docs = l.there in
    let le : t.docs ≤ s.docs = grown.docs in
    record {
      there = omega arith;
      was_loaded = loaded_kept rules t s grown a lt ∙ l.was_loaded;
      same_origin = l.same_origin ∙ sym (origin_kept rules t s grown a lt);
      same_home = l.same_home ∙ sym (home_kept rules t s grown a lt);
      same_group = l.same_group ∙ sym (grown.group a lt);
    }

initial_new : (rules : Rules) (t s : Tree) → IsGrown rules t s → (d : ℕ) → IsNewDoc rules t s d → is_loaded s d ≡ false → (origin_of s d ≡ Opaque d) ⊎ ((a : ℕ) × IsLike s (origin_of s d) (home_of s d) (group_of_doc s d) a)
initial_new rules t s grown d (Initial_own f o) e = inl o
initial_new rules t s grown d (Initial_like a f l) e = inr (a, like_kept rules t s grown (origin_of s d) (home_of s d) (group_of_doc s d) a l)
initial_new rules t s grown d (Loaded_new g f in_group h o host l) e = absurd (false≢true (sym e ∙ f))

-- an opaque origin that a loaded document has was made for a loaded one
not_initial : (rules : Rules) (t s : Tree) → AreHomed rules t → IsGrown rules t s → (a k d : ℕ) → a < t.docs → is_loaded t a ≡ true → origin_of t a ≡ Opaque k → IsOwn s d k
not_initial rules t s homed grown a k d lt la o =
    let own : IsOwn t a k = homed.own a k lt o in
    let below : k < t.docs = own.0 in
    let le : t.docs ≤ s.docs = grown.docs in
    (omega arith, λ f. let same : k ≡ a = own.1 (sym (loaded_kept rules t s grown k below) ∙ f) in absurd (false≢true (sym f ∙ loaded_kept rules t s grown k below ∙ ap (is_loaded t) same ∙ la)))

own_new : (rules : Rules) (t s : Tree) → AreHomed rules t → IsGrown rules t s → (d k : ℕ) → d < s.docs → IsNewDoc rules t s d → origin_of s d ≡ Opaque k → IsOwn s d k
own_new rules t s homed grown d k lt (Initial_own f o) e = let same : k ≡ d = cc in (rw same lt, λ _. same)
own_new rules t s homed grown d k lt (Initial_like a f l) e = not_initial rules t s homed grown a k d l.there l.was_loaded (sym l.same_origin ∙ e)
own_new rules t s homed grown d k lt (Loaded_new g f in_group h o host l) e =
    elim (o k e) as (λ _. IsOwn s d k) [
      | inl same ↦ (rw same lt, λ _. same)
      | inr a ↦ not_initial rules t s homed grown a.0 k d a.1 a.2 a.3
    ]

-- the host of a new document
host_new : (rules : Rules) (t s : Tree) → AreHomed rules t → (d : ℕ) (tuple : TupleParts) → IsNewDoc rules t s d → origin_of s d ≡ Tuple tuple → HasWebHost tuple.host tuple.ip
host_new rules t s homed d tuple (Initial_own f o) e = let clash : Tuple tuple ≡ Opaque d = sym e ∙ o in absurd cc
host_new rules t s homed d tuple (Initial_like a f l) e = homed.hosts a tuple l.there (sym l.same_origin ∙ e)
host_new rules t s homed d tuple (Loaded_new g f in_group h o host l) e =
    elim (host tuple e) as (λ _. HasWebHost tuple.host tuple.ip) [
      | inl is ↦ is
      | inr a ↦ homed.hosts a.0 tuple a.1 a.2
    ]

-- what a tuple's host may come to, by its effective domain
effective_fits : (rules : Rules) (tuple : TupleParts) (origin : Origin) (before : Option (List ℕ)) (effective : List ℕ) → origin ≡ Tuple tuple
    → ((domain : List ℕ) → before ≡ Some domain → IsDomainOf tuple.host tuple.ip rules.suffixes domain) → effective_domain origin before ≡ Some effective → IsDomainOf tuple.host tuple.ip rules.suffixes effective
effective_fits rules tuple origin None effective o h e =
    let is : Some tuple.host ≡ Some effective = ap (λ (z : Origin). effective_domain z None) (sym o) ∙ e in
    let same : tuple.host ≡ effective = cc in
    subst (IsDomainOf tuple.host tuple.ip rules.suffixes) same own_host
effective_fits rules tuple origin (Some domain) effective o h e =
    let is : Some domain ≡ Some effective = ap (λ (z : Origin). effective_domain z (Some domain)) (sym o) ∙ e in
    let same : domain ≡ effective = cc in
    subst (IsDomainOf tuple.host tuple.ip rules.suffixes) same (h domain refl)

-- the domain of an older document
domain_kept : (rules : Rules) (t s : Tree) → AreHomed rules t → IsGrown rules t s → (x : ℕ) (tuple : TupleParts) (domain : List ℕ) → x < t.docs → origin_of t x ≡ Tuple tuple → domain_of s x ≡ Some domain
    → IsDomainOf tuple.host tuple.ip rules.suffixes domain
domain_kept rules t s homed grown x tuple domain lt o e =
    elim (grown.set x lt) as (λ _. IsDomainOf tuple.host tuple.ip rules.suffixes domain) [
      | inl same ↦ homed.domains x tuple domain lt o (sym same ∙ e)
      | inr set ↦
          let is : Some set.0 ≡ Some domain = sym set.2 ∙ e in
          let value : set.0 ≡ domain = cc in
          let ip : is_address (origin_of t x) ≡ tuple.ip = ap is_address o in
          subst (IsDomainOf tuple.host tuple.ip rules.suffixes) value
          (relaxed set.1 set.0 (effective_fits rules tuple (origin_of t x) (domain_of t x) set.1 o (λ d same. homed.domains x tuple d lt o same) set.3)
          (ap (λ (b : Bool). fits set.0 set.1 b rules.suffixes) (sym ip) ∙ set.4))
    ]

pub homed_grown : (rules : Rules) (t s : Tree) → AreHomed rules t → IsGrown rules t s → AreHomed rules s
homed_grown rules t s homed grown = record {
  below =
      let older : AllBelow s.docs t.loads = more_below t.docs s.docs grown.docs t.loads homed.below in
      elim (grown.loads) as (λ _. AllBelow s.docs s.loads) [ inl same ↦ subst (AllBelow s.docs) (sym same) older | inr more ↦ subst (AllBelow s.docs) (sym more.3) (last_below s.docs more.0 more.2 t.loads older) ];
  first = λ x lt e. elim (cases_lt x t.docs) as (λ _. IsHomedFirst rules s x) [
    | inl old ↦
        let f : IsHomedFirst rules t x = homed.first x old (sym (loaded_kept rules t s grown x old) ∙ e) in
        record {
          group = f.group;
          in_group = grown.group x old ∙ f.in_group;
          first = f.first;
          is_first = ap (λ (o : Origin). find (is_of rules.suffixes s f.group (site_of o rules.suffixes)) s.loads) (origin_kept rules t s grown x old)
              ∙ first_kept rules t s homed grown f.group (site_of (origin_of t x) rules.suffixes) f.first f.is_first;
          one_home = home_kept rules t s grown f.first (found_below t.docs (is_of rules.suffixes t f.group (site_of (origin_of t x) rules.suffixes)) f.first t.loads homed.below f.is_first)
              ∙ f.one_home
              ∙ sym (home_kept rules t s grown x old);
        }
    | inr new ↦ first_new rules t s homed grown x (grown.new x new lt) e
  ];
  initial = λ x lt e. elim (cases_lt x t.docs) as (λ _. (origin_of s x ≡ Opaque x) ⊎ ((a : ℕ) × IsLike s (origin_of s x) (home_of s x) (group_of_doc s x) a)) [
    | inl old ↦ rw (origin_kept rules t s grown x old, home_kept rules t s grown x old, grown.group x old)
        (elim (homed.initial x old (sym (loaded_kept rules t s grown x old) ∙ e)) as (λ _. (origin_of t x ≡ Opaque x) ⊎ ((a : ℕ) × IsLike s (origin_of t x) (home_of t x) (group_of_doc t x) a)) [
          | inl o ↦ inl o
          | inr l ↦ inr (l.0, like_kept rules t s grown (origin_of t x) (home_of t x) (group_of_doc t x) l.0 l.1)
        ])
    | inr new ↦ initial_new rules t s grown x (grown.new x new lt) e
  ];
  own = λ x k lt e. elim (cases_lt x t.docs) as (λ _. IsOwn s x k) [
    | inl old ↦
        let o : IsOwn t x k = homed.own x k old (sym (origin_kept rules t s grown x old) ∙ e) in
        let below : k < t.docs = o.0 in
        let le : t.docs ≤ s.docs = grown.docs in
        (omega arith, λ f. o.1 (sym (loaded_kept rules t s grown k below) ∙ f))
    | inr new ↦ own_new rules t s homed grown x k lt (grown.new x new lt) e
  ];
  hosts = λ x tuple lt e. elim (cases_lt x t.docs) as (λ _. HasWebHost tuple.host tuple.ip) [
    | inl old ↦ homed.hosts x tuple old (sym (origin_kept rules t s grown x old) ∙ e)
    | inr new ↦ host_new rules t s homed x tuple (grown.new x new lt) e
  ];
  unset = λ x ge. let le = grown.docs in let above : t.docs ≤ x = omega (arith, le, ge) in grown.unset x above ∙ homed.unset x above;
  domains = λ x tuple domain lt o e. elim (cases_lt x t.docs) as (λ _. IsDomainOf tuple.host tuple.ip rules.suffixes domain) [
    | inl old ↦ domain_kept rules t s homed grown x tuple domain old (sym (origin_kept rules t s grown x old) ∙ o) e
    | inr new ↦ let clash : None ≡ Some domain = sym (homed.unset x new) ∙ sym (grown.unset x new) ∙ e in absurd cc
  ];
}
