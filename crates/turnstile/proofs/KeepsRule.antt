-- Each step keeps the rule.
use Rattle.std.proofs.Common.{◌≡◌, ◌≢◌, ℕ, zero, suc, ◌+◌, ◌-◌, ◌<◌, ◌≤◌, ◌%◌, ◌^◌, List, [], ◌∷◌, ◌++◌, length, get_or, set, Option, Some, None, inl, inr, refl, sym, ap, ◌∙◌, subst, ⊎_elim, arith}
use Rattle.std.specs.List.{All, sum_by}
use Rattle.std.proofs.lemmas.List.{length-set, length-append, append-nil}
use Rattle.std.proofs.lemmas.List.Elements.{All-nil}
use Rattle.std.proofs.Math.Nat.{mod-add-mod, mod-eq_of_lt, add_assoc}
use mathlib.Core.Logic.{dite}
use mathlib.Core.Option.{some, none, some-injective, some-ne-none}
use mathlib.Core.Option as m
use native.Mathlib.Decide.{ℕ_discrete}
use lib.ListN.{get_elem?}
use Rattle.atomic_table.specs.Table.{State, Me, Act, Step, step, keeps, takes, gives, Valid, homes_after, carried_after, Allows, Splits, Joins, opening as at_start, Seen}
use Rattle.atomic_table.proofs.Lists.{at_set, set_here, set_else, set_again, at_longer, one_turn}
use Rattle.turnstile.specs.declared.view.View.{View}
use Rattle.turnstile.specs.declared.view.Stage.{Stage}
use Rattle.turnstile.specs.declared.view.Stage.TheVariants.{Outside, Waiting, Inside, Spent}
use Rattle.turnstile.specs.Histories.{Follows, Enters, Extends, Since, Begins}
use Rattle.turnstile.specs.Stages.{held, holding, HasTicket, IsLive}
use Rattle.turnstile.specs.Steps.{staged, back, maker, split_left, split_right, joined, gone, drew, looked, released}
use Rattle.turnstile.specs.Rule.{KeptAt, IsIn, Fits, Lies, Kept}
use Rattle.turnstile.proofs.Seen.{at_get, some_at, at_end, same_at, sum_set, sum_le, sum_end, follows_self, follows_more, enters, follows_new, begins_trans, since_more, since_wider}

module _ {I : Type 0} where
  one_at_most : (v : View I) → holding v ≤ 1
  one_at_most v = go v.stage
    where
      go : (st : Stage I) → held st ≤ 1
      go Outside = omega arith
      go (Waiting t) = omega arith
      go (Inside t e) = omega arith
      go Spent = omega arith

  holds_one : (st : Stage I) (t : ℕ) → HasTicket st t → held st ≡ 1
  holds_one Outside t h = absurd h
  holds_one (Waiting u) t h = refl
  holds_one (Inside u e) t h = refl
  holds_one Spent t h = absurd h

  -- where the views but one stay
  pub stays : (K : ℕ → View I → Type 0) (vs : List (View I)) (id : ℕ) (w : View I) → K id w → ((j : ℕ) (d : View I) → j ≢ id → get_elem? vs j ≡ some d → K j d)
      → (j : ℕ) (d : View I) → get_elem? (set vs id w) j ≡ some d → K j d
  stays K vs id w mine others j d e =
      ⊎_elim
      (λ (x : (j ≡ id) × (w ≡ d)). subst (λ (y : ℕ × View I). K y.0 y.1) (λ i. (sym x.0 i, x.1 i)) mine)
      (λ (x : (j ≢ id) × (get_elem? vs j ≡ some d)). others j d x.0 x.1)
      (at_set vs id j w d e)

  abbrev Apart : List (View I) → Type 0
  Apart vs = (i j : ℕ) (v w : View I) → get_elem? vs i ≡ some v → get_elem? vs j ≡ some w → (t : ℕ) → HasTicket v.stage t → HasTicket w.stage t → i ≡ j

  apart_set : (vs : List (View I)) (id : ℕ) (w : View I) → ((j : ℕ) (d : View I) → j ≢ id → get_elem? vs j ≡ some d → (t : ℕ) → HasTicket w.stage t → HasTicket d.stage t → ⊥) → Apart vs → Apart (set vs id w)
  apart_set vs id w clash old i j v u ei ej t hv hu =
      ⊎_elim
      (λ (a : (i ≡ id) × (w ≡ v)).
      ⊎_elim
      (λ (b : (j ≡ id) × (w ≡ u)). a.0 ∙ sym b.0)
      (λ (b : (j ≢ id) × (get_elem? vs j ≡ some u)). absurd (clash j u b.0 b.1 t (subst (λ (x : View I). HasTicket x.stage t) (sym a.1) hv) hu))
      (at_set vs id j w u ej))
      (λ (a : (i ≢ id) × (get_elem? vs i ≡ some v)).
      ⊎_elim
      (λ (b : (j ≡ id) × (w ≡ u)). absurd (clash i v a.0 a.1 t (subst (λ (x : View I). HasTicket x.stage t) (sym b.1) hu) hv))
      (λ (b : (j ≢ id) × (get_elem? vs j ≡ some u)). old i j v u a.1 b.1 t hv hu)
      (at_set vs id j w u ej))
      (at_set vs id i w v ei)

  abbrev KeptAll : (I → Option ℕ) → List (View I) → List I → Type 0
  KeptAll names vs base = (i : ℕ) (v : View I) → get_elem? vs i ≡ some v → (j : ℕ) (l : List I) → get_elem? v.kept j ≡ some l → KeptAt names vs base j l

  -- a spent pass is another than one that is not
  spent_else : (vs : List (View I)) (id j : ℕ) (v u : View I) → get_elem? vs id ≡ some v → IsLive v.stage → get_elem? vs j ≡ some u → u.stage ≡ Spent → j ≢ id
  spent_else vs id j v u at live there spent e =
      let same : u ≡ v = same_at vs id u v (subst (λ k. get_elem? vs k ≡ some u) e there) at in
      let gone : v.stage ≡ Spent = ap (λ (x : View I). x.stage) (sym same) ∙ spent in
      subst IsLive gone live

  kept_at_set : (names : I → Option ℕ) (vs : List (View I)) (id : ℕ) (v w : View I) (base base' : List I) → get_elem? vs id ≡ some v → IsLive v.stage
      → ((n : ℕ) (l : List I) → n ≢ id → Follows names n l base → Follows names n l base')
      → (j : ℕ) (l : List I) → KeptAt names vs base j l → KeptAt names (set vs id w) base' j l
  kept_at_set names vs id v w base base' at live more j l k =
      let apart : j + 1 ≢ id = spent_else vs id (j + 1) v k.0.0 at live k.0.1 k.0.2 in
      ((k.0.0, set_else vs id (j + 1) w apart ∙ k.0.1, k.0.2), more (j + 1) l apart k.1)

  kept_set : (names : I → Option ℕ) (vs : List (View I)) (id : ℕ) (v w : View I) (base base' : List I) → get_elem? vs id ≡ some v → IsLive v.stage → w.kept ≡ v.kept
      → ((n : ℕ) (l : List I) → n ≢ id → Follows names n l base → Follows names n l base')
      → KeptAll names vs base → KeptAll names (set vs id w) base'
  kept_set names vs id v w base base' at live same more old =
      stays (λ i d. (j : ℕ) (l : List I) → get_elem? d.kept j ≡ some l → KeptAt names (set vs id w) base' j l) vs id w
      (λ j l e. kept_at_set names vs id v w base base' at live more j l (old id v at j l (subst (λ ks. get_elem? ks j ≡ some l) same e)))
      (λ i d apart there j l e. kept_at_set names vs id v w base base' at live more j l (old i d there j l e))

abbrev pub or_else : {S : Type 0} → S → Option S → S
or_else d None = d
or_else d (Some x) = x

abbrev pub what : {S : Type 0} → S → List (ℕ × Option S) → S
what d [] = d
what d (p ∷ ps) = or_else d p.1

module _ {S I : Type 0} where
  -- who is inside is not waiting, and so on
  not_inside : (serving : ℕ) (base : List I) (homes homes' : List (m.Option (Option S))) (base' : List I) (serving' : ℕ) (st : Stage I) → IsIn serving base homes st → (HasTicket st serving → ⊥) → IsIn serving' base' homes' st
  not_inside serving base homes homes' base' serving' Outside h never = tt
  not_inside serving base homes homes' base' serving' (Waiting t) h never = tt
  not_inside serving base homes homes' base' serving' (Inside t e) h never = absurd (never h.0)
  not_inside serving base homes homes' base' serving' Spent h never = tt

  full_none_inside : (serving : ℕ) (base : List I) (x : Option S) (homes homes' : List (m.Option (Option S))) (st : Stage I) → homes ≡ some x ∷ [] → IsIn serving base homes st → IsIn serving base homes' st
  full_none_inside serving base x homes homes' Outside full h = tt
  full_none_inside serving base x homes homes' (Waiting t) full h = tt
  full_none_inside serving base x homes homes' (Inside t e) full h = absurd (some-ne-none x (some-injective _ _ (ap (λ hs. get_elem? hs 0) (sym full ∙ h.2))))
  full_none_inside serving base x homes homes' Spent full h = tt

  module _ (history : S → List I) (names : I → Option ℕ) (opening : List I) (seats : ℕ) where
    abbrev V : Type 0
    V = View I

    abbrev St : Type 0
    St = State (Option S) V

    abbrev pub Rule : St → Type 0
    Rule = Kept history names opening seats

    -- a view that is not inside may change
    lies_set : (base : List I) (homes : List (m.Option (Option S))) (vs : List V) (id : ℕ) (v w : V) → get_elem? vs id ≡ some v → ((t : ℕ) (e : List I) → v.stage ≢ Inside t e) → Lies history base homes vs → Lies history base homes (set vs id w)
    lies_set base homes vs id v w at out (inl h) = inl h
    lies_set base homes vs id v w at out (inr h) =
        let i = h.1.0 in
        let apart : i ≢ id = λ e. out h.1.2 base (ap (λ (x : V). x.stage) (same_at vs id v h.1.1 at (subst (λ k. get_elem? vs k ≡ some h.1.1) e h.1.3)) ∙ h.1.4) in
        inr (h.0, (i, h.1.1, h.1.2, set_else vs id i w apart ∙ h.1.3, h.1.4))

    -- drawing a ticket
    drawn : (s : St) (r : Rule s) (id : ℕ) (v : V) → get_elem? s.views id ≡ some v → v.stage ≡ Outside
        → Rule record { words = (((r.serving + r.out) % 2 ^ 64) + 1) % 2 ^ 64 ∷ r.serving ∷ []; homes = s.homes; views = set s.views id (staged v (Waiting ((r.serving + r.out) % 2 ^ 64))) }
    drawn s r id v at outside =
        let n : ℕ = (r.serving + r.out) % 2 ^ 64 in
        let w = staged v (Waiting n) in
        let live : IsLive v.stage = subst IsLive (sym outside) tt in
        let none_held : holding v ≡ 0 = ap held outside in
        let sum = sum_set holding s.views id v w at in
        let sum' : sum_by holding (set s.views id w) ≡ r.out + 1 = (let c = r.counted in omega arith) in
        let most = sum_le holding one_at_most (set s.views id w) in
        let len = length-set s.views id w in
        let few = r.few.0 in
        let small = r.few.1 in
        let room : r.out + 1 ≤ 65536 = omega arith in
        record {
          out = r.out + 1;
          serving = r.serving;
          base = r.base;
          words = ap (λ (k : ℕ). k ∷ r.serving ∷ []) (mod-add-mod (r.serving + r.out) (2 ^ 64) 1 ∙ ap (λ (k : ℕ). k % 2 ^ 64) (add_assoc r.serving r.out 1));
          served = r.served;
          counted = sum';
          few = (omega arith, small);
          each = subst (λ (c : ℕ). (j : ℕ) (d : V) → get_elem? (set s.views id w) j ≡ some d → IsLive d.stage → Fits names opening c (r.out + 1) r.serving r.base s.homes j d) (sym len)
              (stays (λ j d. IsLive d.stage → Fits names opening (length s.views) (r.out + 1) r.serving r.base s.homes j d) s.views id w
              (λ _. let f = r.each id v at live in record { number = f.number; next = f.next; ticket = λ t h. (r.out, omega arith, sym h); within = tt; begins = f.begins; follows = f.follows })
              (λ j d apart there l. let f = r.each j d there l in record { number = f.number; next = f.next; ticket = λ t h. (let k = f.ticket t h in let lt = k.1 in (k.0, omega arith, k.2)); within = f.within; begins = f.begins; follows = f.follows }));
          apart = apart_set s.views id w
              (λ j d other there t mine theirs. let k = r.each j d there (live_of d.stage t theirs) in let q = k.ticket t theirs in let lt = q.1 in
              let same : r.serving + q.0 ≡ r.serving + r.out = one_turn (r.serving + q.0) (r.serving + r.out) (2 ^ 64) (omega arith) (omega arith) (sym q.2 ∙ sym mine) in
              absurd (omega arith))
              r.apart;
          kept = kept_set names s.views id v w r.base r.base at live refl (λ n l _ f. f) r.kept;
          lies = lies_set r.base s.homes s.views id v w at (λ t e is. subst (λ (st : Stage I). HasTicket st t) (sym is ∙ outside) refl) r.lies;
          since = subst (λ (c : ℕ). Since names c opening r.base) (sym len) r.since;
        }
      where
        live_of : (st : Stage I) (t : ℕ) → HasTicket st t → IsLive st
        live_of Outside t h = tt
        live_of (Waiting u) t h = tt
        live_of (Inside u e) t h = tt
        live_of Spent t h = h

    pub draws : (slots id : ℕ) (v : V) (c : List (ℕ × Option S)) → v.stage ≡ Outside → Allows Rule slots id (v, c) 0 (λ n. (n + 1) % 2 ^ 64) (drew (step slots 0 1 0 none) (v, c))
    draws slots id v c outside s r len at fits =
        let n : ℕ = (r.serving + r.out) % 2 ^ 64 in
        let P : List ℕ → Type 0 = λ ws. (w : V) × (a : Act (Option S)) × Valid s.homes c a × Rule record { words = set ws 0 ((get_or ws 0 0 + 1) % 2 ^ 64); homes = homes_after s.homes c a; views = set s.views id w } × drew (step slots 0 1 0 none) (v, c) (get_or ws 0 0) (w, carried_after c a) in
        subst P (sym r.words) (staged v (Waiting n), keeps, tt, drawn s r id v at outside, refl)

    -- a look that changes nothing
    unmoved : (s : St) (id : ℕ) (v : V) → get_elem? s.views id ≡ some v → Rule s → (i : ℕ) (c : List (ℕ × Option S)) (ws : List ℕ) → ws ≡ s.words → Rule record { words = ws; homes = s.homes; views = set s.views id v }
    unmoved s id v at r i c ws same = let stay = set_again s.views id v at in
        subst (λ (x : List ℕ × List V). Rule record { words = x.0; homes = s.homes; views = x.1 }) (λ k. (sym same k, sym stay k)) r

    waiting_is : (v : V) (t u : ℕ) → v.stage ≡ Waiting t → v.stage ≡ Waiting u → t ≡ u
    waiting_is v t u e f = let P : Stage I → Type 0 = λ st. HasTicket st u in let q : t ≡ u = subst P (sym f ∙ e) refl in q

    -- whose ticket is served finds the state in the slot
    found_full : (s : St) (r : Rule s) (id : ℕ) (v : V) → get_elem? s.views id ≡ some v → v.stage ≡ Waiting r.serving → (x : S) × (s.homes ≡ some (Some x) ∷ []) × (history x ≡ r.base)
    found_full s r id v at waits = go r.lies
      where
        go : Lies history r.base s.homes s.views → (x : S) × (s.homes ≡ some (Some x) ∷ []) × (history x ≡ r.base)
        go (inl h) = h
        go (inr h) =
            let i = h.1.0 in
            let u : V = h.1.1 in
            let live : IsLive u.stage = subst IsLive (sym h.1.4) tt in
            let inside = (r.each i u h.1.3 live).within in
            let served : h.1.2 ≡ r.serving = (let w : IsIn r.serving r.base s.homes (Inside h.1.2 r.base) = subst (IsIn r.serving r.base s.homes) h.1.4 inside in w.0) in
            let theirs : HasTicket u.stage r.serving = subst (λ (st : Stage I). HasTicket st r.serving) (sym h.1.4) served in
            let mine : HasTicket v.stage r.serving = subst (λ (st : Stage I). HasTicket st r.serving) (sym waits) refl in
            let same : i ≡ id = r.apart i id u v h.1.3 at r.serving theirs mine in
            let one : u ≡ v = same_at s.views id u v (subst (λ k. get_elem? s.views k ≡ some u) same h.1.3) at in
            let both : Inside h.1.2 r.base ≡ Waiting r.serving = sym h.1.4 ∙ (ap (λ (y : V). y.stage) one ∙ waits) in
            absurd (cc both)

    entered : (s : St) (r : Rule s) (id : ℕ) (v : V) (x : S) → get_elem? s.views id ≡ some v → v.stage ≡ Waiting r.serving → s.homes ≡ some (Some x) ∷ [] → history x ≡ r.base
        → Rule record { words = (r.serving + r.out) % 2 ^ 64 ∷ r.serving ∷ []; homes = none ∷ []; views = set s.views id (staged v (Inside r.serving (history x))) }
    entered s r id v x at waits full is =
        let w = staged v (Inside r.serving (history x)) in
        let live : IsLive v.stage = subst IsLive (sym waits) tt in
        let one_held : holding v ≡ 1 = ap held waits in
        let sum = sum_set holding s.views id v w at in
        let len = length-set s.views id w in
        let few = r.few.0 in
        let mine : HasTicket v.stage r.serving = subst (λ (st : Stage I). HasTicket st r.serving) (sym waits) refl in
        record {
          out = r.out;
          serving = r.serving;
          base = r.base;
          words = refl;
          served = r.served;
          counted = (let c = r.counted in omega arith);
          few = (omega arith, r.few.1);
          each = subst (λ (c : ℕ). (j : ℕ) (d : V) → get_elem? (set s.views id w) j ≡ some d → IsLive d.stage → Fits {S = S} names opening c r.out r.serving r.base (none ∷ []) j d) (sym len)
              (stays (λ j d. IsLive d.stage → Fits {S = S} names opening (length s.views) r.out r.serving r.base (none ∷ []) j d) s.views id w
              (λ _. let f = r.each id v at live in record { number = f.number; next = f.next; ticket = λ t h. f.ticket t (subst (λ (st : Stage I). HasTicket st t) (sym waits) h); within = (refl, is, refl); begins = f.begins; follows = f.follows })
              (λ j d apart there l. let f = r.each j d there l in record { number = f.number; next = f.next; ticket = f.ticket; within = full_none_inside r.serving r.base (Some x) s.homes (none ∷ []) d.stage full f.within; begins = f.begins; follows = f.follows }));
          apart = apart_set s.views id w (λ j d other there t hw theirs. other (r.apart j id d v there at t theirs (subst (λ (st : Stage I). HasTicket st t) (sym waits) hw))) r.apart;
          kept = kept_set names s.views id v w r.base r.base at live refl (λ n l _ f. f) r.kept;
          lies = inr (refl, (id, w, r.serving, set_here s.views id w (at_get s.views id v at).0, ap (λ b. Inside r.serving b) is));
          since = subst (λ (c : ℕ). Since names c opening r.base) (sym len) r.since;
        }

    pub looks : (slots id : ℕ) (v : V) (t : ℕ) → v.stage ≡ Waiting t → Allows Rule slots id (v, []) 1 (λ n. n) (looked history names (step slots 1 0 0 none) (v, []))
    looks slots id v t waits s r len at fits =
        let P : List ℕ → Type 0 = λ ws. (w : V) × (a : Act (Option S)) × Valid s.homes [] a × Rule record { words = set ws 1 (get_or ws 1 0); homes = homes_after s.homes [] a; views = set s.views id w }
        × looked history names (step slots 1 0 0 none) (v, []) (get_or ws 1 0) (w, carried_after [] a) in
        subst P (sym r.words) (dite (ℕ_discrete r.serving t)
        (λ (e : r.serving ≡ t).
        let waits' : v.stage ≡ Waiting r.serving = waits ∙ ap (λ (k : ℕ). Waiting k) (sym e) in
        let h = found_full s r id v at waits' in
        let f = r.each id v at (subst IsLive (sym waits) tt) in
        let x : S = h.0 in
        let go_in = enters names id (length s.views) opening v.seen r.base f.begins f.follows r.since in
        let go_in' : Enters names v.number v.seen (history x) = subst (λ (y : ℕ × List I). Enters names y.0 v.seen y.1) (λ k. (sym f.number k, sym h.2 k)) go_in in (
          staged v (Inside r.serving (history x)),
          takes 0 (Some x),
          ap (λ hs. get_elem? hs 0) h.1,
          subst (λ hs. Rule record { words = (r.serving + r.out) % 2 ^ 64 ∷ r.serving ∷ []; homes = set hs 0 none; views = set s.views id (staged v (Inside r.serving (history x))) }) (sym h.1) (entered s r id v x at waits' h.1 h.2),
          λ u waits_u. let u_is : r.serving ≡ u = waiting_is v r.serving u waits' waits_u in ((λ _. (x, (λ k. (staged v (Inside (u_is k) (history x)), (0, Some x) ∷ [])), go_in')), λ ne. absurd (ne u_is)),
        ))
        (λ (ne : r.serving ≢ t). (v, keeps, tt, unmoved s id v at r 1 [] ((r.serving + r.out) % 2 ^ 64 ∷ r.serving ∷ []) (sym r.words), λ u waits_u. ((λ e. absurd (ne (e ∙ waiting_is v u t waits_u waits))), λ _. refl))))

    left : (s : St) (r : Rule s) (id : ℕ) (v : V) (t : ℕ) (e : List I) (x : S) → get_elem? s.views id ≡ some v → v.stage ≡ Inside t e → Extends names v.number e (history x)
        → Rule record { words = (r.serving + r.out) % 2 ^ 64 ∷ (r.serving + 1) % 2 ^ 64 ∷ []; homes = some (Some x) ∷ []; views = set s.views id (back v (history x)) }
    left s r id v t e x at inside more =
        let w = back v (history x) in
        let live : IsLive v.stage = subst IsLive (sym inside) tt in
        let f = r.each id v at live in
        let was : IsIn r.serving r.base s.homes (Inside t e) = subst (IsIn r.serving r.base s.homes) inside f.within in
        let mine : HasTicket v.stage r.serving = subst (λ (st : Stage I). HasTicket st r.serving) (sym inside) was.0 in
        let first = f.ticket r.serving mine in
        let some_out = first.1 in
        let one_held : holding v ≡ 1 = ap held inside in
        let sum = sum_set holding s.views id v w at in
        let len = length-set s.views id w in
        let few = r.few.0 in
        let own : List I = more.0 in
        let by_me : All (λ y. names y ≡ Some id) own = subst (λ (k : ℕ). All (λ y. names y ≡ Some k) own) f.number more.2 in
        let now : history x ≡ r.base ++ own = more.1 ∙ ap (λ b. b ++ own) was.1 in
        let grows : (n : ℕ) (l : List I) → n ≢ id → Follows names n l r.base → Follows names n l (history x) = (λ n l apart g. subst (Follows names n l) (sym now) (follows_more names n id l r.base own apart g by_me)) in
        let never : (j : ℕ) (d : V) → j ≢ id → get_elem? s.views j ≡ some d → HasTicket d.stage r.serving → ⊥ = (λ j d apart there h. apart (r.apart j id d v there at r.serving h mine)) in
        record {
          out = r.out - 1;
          serving = (r.serving + 1) % 2 ^ 64;
          base = history x;
          words = ap (λ (k : ℕ). k ∷ (r.serving + 1) % 2 ^ 64 ∷ []) (shift r.serving r.out (omega arith));
          served = mod-lt-64 (r.serving + 1);
          counted = (let c = r.counted in omega arith);
          few = (omega arith, r.few.1);
          each = subst (λ (c : ℕ). (j : ℕ) (d : V) → get_elem? (set s.views id w) j ≡ some d → IsLive d.stage → Fits names opening c (r.out - 1) ((r.serving + 1) % 2 ^ 64) (history x) (some (Some x) ∷ []) j d) (sym len)
              (stays (λ j d. IsLive d.stage → Fits names opening (length s.views) (r.out - 1) ((r.serving + 1) % 2 ^ 64) (history x) (some (Some x) ∷ []) j d) s.views id w
              (λ _. record {
                number = f.number;
                next = f.next;
                ticket = λ u h. absurd h;
                within = tt;
                begins = subst (Begins opening) (sym now) (begins_trans names opening r.base (r.base ++ own) (begins_trans names opening v.seen r.base f.begins (f.follows.0, f.follows.1)) (own, refl));
                follows = follows_self names id (history x);
              })
              (λ j d apart there l. let g = r.each j d there l in record {
                number = g.number;
                next = g.next;
                ticket = λ u h. (let q = g.ticket u h in let lt = q.1 in
                    let later : q.0 ≢ 0 = (λ z. never j d apart there (subst (HasTicket d.stage) (q.2 ∙ (ap (λ (k : ℕ). (r.serving + k) % 2 ^ 64) z ∙ mod-eq_of_lt {n = r.serving + 0} {m = 2 ^ 64} (let sv = r.served in omega arith) ∙ zeroed r.serving)) h)) in
                    (q.0 - 1, omega arith, q.2 ∙ shift r.serving q.0 (omega arith)));
                within = not_inside r.serving r.base s.homes (some (Some x) ∷ []) (history x) ((r.serving + 1) % 2 ^ 64) d.stage g.within (never j d apart there);
                begins = g.begins;
                follows = grows j d.seen apart g.follows;
              }));
          apart = apart_set s.views id w (λ j d other there u hw theirs. hw) r.apart;
          kept = kept_set names s.views id v w r.base (history x) at live refl grows r.kept;
          lies = inl (x, refl, refl);
          since = subst (λ (c : ℕ). Since names c opening (history x)) (sym len) (subst (Since names (length s.views) opening) (sym now) (since_more names (length s.views) id opening r.base own (at_get s.views id v at).0 r.since by_me));
        }
      where
        zeroed : (n : ℕ) → n + 0 ≡ n
        zeroed n = omega arith

        shift : (a b : ℕ) → 0 < b → (a + b) % 2 ^ 64 ≡ ((a + 1) % 2 ^ 64 + (b - 1)) % 2 ^ 64
        shift a b h = let e : (a + 1) + (b - 1) ≡ a + b = omega arith in ap (λ (k : ℕ). k % 2 ^ 64) (sym e) ∙ sym (mod-add-mod (a + 1) (2 ^ 64) (b - 1))

        mod-lt-64 : (n : ℕ) → n % 2 ^ 64 < 2 ^ 64
        mod-lt-64 n = omega arith

    pub releases : (slots id : ℕ) (v : V) (t : ℕ) (e : List I) (x : S) → v.stage ≡ Inside t e → Extends names v.number e (history x)
        → Allows Rule slots id (v, (0, Some x) ∷ []) 1 (λ n. (n + 1) % 2 ^ 64) (released history (step slots 1 1 0 none) (v, (0, Some x) ∷ []))
    releases slots id v t e x inside more s r len at fits =
        let live : IsLive v.stage = subst IsLive (sym inside) tt in
        let was : IsIn r.serving r.base s.homes (Inside t e) = subst (IsIn r.serving r.base s.homes) inside (r.each id v at live).within in
        let P : List ℕ → Type 0 = λ ws. (w : V) × (a : Act (Option S)) × Valid s.homes ((0, Some x) ∷ []) a × Rule record { words = set ws 1 ((get_or ws 1 0 + 1) % 2 ^ 64); homes = homes_after s.homes ((0, Some x) ∷ []) a; views = set s.views id w }
        × released history (step slots 1 1 0 none) (v, (0, Some x) ∷ []) (get_or ws 1 0) (w, carried_after ((0, Some x) ∷ []) a) in
        subst P (sym r.words) (
          back v (history x),
          gives,
          tt,
          subst (λ hs. Rule record { words = (r.serving + r.out) % 2 ^ 64 ∷ (r.serving + 1) % 2 ^ 64 ∷ []; homes = set hs 0 (some (Some x)); views = set s.views id (back v (history x)) }) (sym was.2) (left s r id v t e x at inside more),
          λ y is. let same : x ≡ y = ap (what x) is in ap (λ (z : S). (back v (history z), [])) same,
        )

    -- the table as it is made
    pub opens : (x : S) → history x ≡ opening → 0 < seats → seats < 2 ^ 16 → Rule (at_start (0 ∷ 0 ∷ []) (Some x ∷ []) (maker opening))
    opens x is some_seat few = record {
      out = 0;
      serving = 0;
      base = opening;
      words = refl;
      served = omega arith;
      counted = refl;
      few = (omega arith, few);
      each = alone;
      apart = one_place;
      kept = λ i v at j l e. absurd (none_kept i v at j l e);
      lies = inl (x, refl, is);
      since = ([], sym (append-nil opening), All-nil _);
    }
      where
        alone : (i : ℕ) (v : V) → get_elem? (maker opening ∷ []) i ≡ some v → IsLive v.stage → Fits {S = S} names opening 1 0 0 opening (some (Some x) ∷ []) i v
        alone zero v e l = subst (Fits {S = S} names opening 1 0 0 opening (some (Some x) ∷ []) 0) (some-injective _ _ e) record { number = refl; next = λ _. refl; ticket = λ t h. absurd h; within = tt; begins = ([], sym (append-nil opening)); follows = follows_self names 0 opening }
        alone (suc i) v e l = absurd (some-ne-none v (sym e))

        one_place : Apart (maker opening ∷ [])
        one_place zero zero v w p q t a b = refl
        one_place zero (suc j) v w p q t a b = absurd (some-ne-none w (sym q))
        one_place (suc i) j v w p q t a b = absurd (some-ne-none v (sym p))

        none_kept : (i : ℕ) (v : V) → get_elem? (maker opening ∷ []) i ≡ some v → (j : ℕ) (l : List I) → get_elem? v.kept j ≡ some l → ⊥
        none_kept zero v e j l f = some-ne-none l (sym (subst (λ (u : V). get_elem? u.kept j ≡ some l) (sym (some-injective _ _ e)) f))
        none_kept (suc i) v e j l f = some-ne-none v (sym e)

    pub splits : (id : ℕ) (v : V) → v.number ≡ 0 → v.stage ≡ Outside → v.next < seats → Splits Rule id v (split_left v) (split_right v)
    splits id v zeroth outside room s r at =
        let w = split_left v in
        let n = split_right v in
        let live : IsLive v.stage = subst IsLive (sym outside) tt in
        let f = r.each id v at live in
        let here : id ≡ 0 = sym f.number ∙ zeroth in
        let next : v.next ≡ length s.views = f.next here in
        let len = length-set s.views id w in
        let len' : length (set s.views id w ++ n ∷ []) ≡ length s.views + 1 = omega (arith, length-append (set s.views id w) (n ∷ [])) in
        let sum = sum_set holding s.views id v w at in
        let end = sum_end holding (set s.views id w) n in
        let no_ticket : (t : ℕ) → HasTicket v.stage t → ⊥ = (λ t h. let x : HasTicket {I = I} Outside t = subst (λ (st : Stage I). HasTicket st t) outside h in x) in
        let old_each : (j : ℕ) (d : V) → get_elem? (set s.views id w) j ≡ some d → IsLive d.stage → Fits {S = S} names opening (length s.views + 1) r.out r.serving r.base s.homes j d =
        stays (λ j d. IsLive d.stage → Fits {S = S} names opening (length s.views + 1) r.out r.serving r.base s.homes j d) s.views id w
        (λ _. record { number = f.number; next = λ _. ap (λ (k : ℕ). k + 1) next; ticket = f.ticket; within = f.within; begins = f.begins; follows = f.follows })
        (λ j d apart there l. let g = r.each j d there l in record { number = g.number; next = λ z. absurd (apart (z ∙ sym here)); ticket = g.ticket; within = g.within; begins = g.begins; follows = g.follows }) in
        let new_each : Fits {S = S} names opening (length s.views + 1) r.out r.serving r.base s.homes (length s.views) n =
        record { number = next; next = λ z. (let lt = (at_get s.views id v at).0 in absurd (omega arith)); ticket = λ t h. absurd h; within = tt; begins = f.begins; follows = follows_new names (length s.views) opening v.seen r.base id f.begins f.follows r.since } in
        let set_apart = apart_set s.views id w (λ j d other there t hw theirs. no_ticket t hw) r.apart in
        let set_kept : KeptAll names (set s.views id w) r.base = kept_set names s.views id v w r.base r.base at live refl (λ k l _ g. g) r.kept in
        let set_lies = lies_set r.base s.homes s.views id v w at (λ t e is. subst (λ (st : Stage I). HasTicket st t) (sym is ∙ outside) refl) r.lies in
        let few = r.few.0 in
        record {
          out = r.out;
          serving = r.serving;
          base = r.base;
          words = r.words;
          served = r.served;
          counted = (let c = r.counted in omega arith);
          few = (omega arith, r.few.1);
          each = subst (λ (c : ℕ). (j : ℕ) (d : V) → get_elem? (set s.views id w ++ n ∷ []) j ≡ some d → IsLive d.stage → Fits {S = S} names opening c r.out r.serving r.base s.homes j d) (sym len')
              (λ j d e l. ⊎_elim (λ was. old_each j d was l)
              (λ (h : (j ≡ length (set s.views id w)) × (n ≡ d)). subst (λ (y : ℕ × V). Fits {S = S} names opening (length s.views + 1) r.out r.serving r.base s.homes y.0 y.1) (λ k. (sym (h.0 ∙ len) k, h.1 k)) new_each)
              (at_end (set s.views id w) n d j e));
          apart = λ i j u x p q t a b.
              ⊎_elim
              (λ p'. ⊎_elim (λ q'. set_apart i j u x p' q' t a b) (λ (h : (j ≡ length (set s.views id w)) × (n ≡ x)). absurd (subst (λ (y : V). HasTicket y.stage t) (sym h.1) b)) (at_end (set s.views id w) n x j q))
              (λ (h : (i ≡ length (set s.views id w)) × (n ≡ u)). absurd (subst (λ (y : V). HasTicket y.stage t) (sym h.1) a))
              (at_end (set s.views id w) n u i p);
          kept = λ i u p j l e.
              ⊎_elim
              (λ p'. let k = set_kept i u p' j l e in ((k.0.0, at_longer (set s.views id w) (n ∷ []) (j + 1) k.0.0 k.0.1, k.0.2), k.1))
              (λ (h : (i ≡ length (set s.views id w)) × (n ≡ u)). absurd (some-ne-none l (sym (subst (λ (y : V). get_elem? y.kept j ≡ some l) (sym h.1) e))))
              (at_end (set s.views id w) n u i p);
          lies = longer r.base s.homes (set s.views id w) n set_lies;
          since = subst (λ (c : ℕ). Since names c opening r.base) (sym len') (since_wider names (length s.views) (length s.views + 1) opening r.base (omega arith) r.since);
        }
      where
        longer : (base : List I) (homes : List (m.Option (Option S))) (vs : List V) (n : V) → Lies history base homes vs → Lies history base homes (vs ++ n ∷ [])
        longer base homes vs n (inl h) = inl h
        longer base homes vs n (inr h) = inr (h.0, (h.1.0, h.1.1, h.1.2, at_longer vs (n ∷ []) h.1.0 h.1.1 h.1.3, h.1.4))

    pub joins : (id : ℕ) (v : V) (other : ℕ) (w : V) → v.stage ≡ Outside → w.stage ≡ Outside → w.number ≡ length v.kept + 1 → Joins Rule id v other w (joined v w) gone
    joins id v other w out_v out_w number s r at apart there =
        let b = joined v w in
        let vs : List V = set s.views id b in
        let live_v : IsLive v.stage = subst IsLive (sym out_v) tt in
        let live_w : IsLive w.stage = subst IsLive (sym out_w) tt in
        let there' : get_elem? s.views other ≡ some w = sym (set_else s.views id other b apart) ∙ there in
        let f = r.each id v at live_v in
        let g = r.each other w there' live_w in
        let place : other ≡ length v.kept + 1 = sym g.number ∙ number in
        let len = length-set s.views id b in
        let len' : length (set vs other gone) ≡ length s.views = length-set vs other gone ∙ len in
        let sum = sum_set holding s.views id v b at in
        let sum' = sum_set holding vs other w gone there in
        let none_w : holding w ≡ 0 = ap held out_w in
        let no_ticket : (st : Stage I) → st ≡ Outside → (t : ℕ) → HasTicket st t → ⊥ = (λ st o t h. let x : HasTicket {I = I} Outside t = subst (λ (y : Stage I). HasTicket y t) o h in x) in
        let outside : (u : V) → u.stage ≡ Outside → (t : ℕ) (e : List I) → u.stage ≢ Inside t e = (λ u o t e is. subst (λ (st : Stage I). HasTicket st t) (sym is ∙ o) refl) in
        let each' : (j : ℕ) (d : V) → get_elem? (set vs other gone) j ≡ some d → IsLive d.stage → Fits {S = S} names opening (length s.views) r.out r.serving r.base s.homes j d =
        stays (λ j d. IsLive d.stage → Fits {S = S} names opening (length s.views) r.out r.serving r.base s.homes j d) vs other gone (λ l. absurd l)
        (λ j d _ e l. stays (λ j d. IsLive d.stage → Fits {S = S} names opening (length s.views) r.out r.serving r.base s.homes j d) s.views id b
        (λ _. record { number = f.number; next = f.next; ticket = f.ticket; within = f.within; begins = f.begins; follows = f.follows }) (λ j d _ e l. r.each j d e l) j d e l) in
        let same_base : (n : ℕ) (l : List I) → n ≢ other → Follows names n l r.base → Follows names n l r.base = (λ n l _ h. h) in
        let same_base' : (n : ℕ) (l : List I) → n ≢ id → Follows names n l r.base → Follows names n l r.base = (λ n l _ h. h) in
        let keep : (j : ℕ) (l : List I) → KeptAt names s.views r.base j l → KeptAt names (set vs other gone) r.base j l =
        (λ j l k. kept_at_set names vs other w gone r.base r.base there live_w same_base j l (kept_at_set names s.views id v b r.base r.base at live_v same_base' j l k)) in
        let gone_there : get_elem? (set vs other gone) other ≡ some gone = set_here vs other gone (at_get vs other w there).0 in
        let last : KeptAt names (set vs other gone) r.base (length v.kept) w.seen =
        ((gone, subst (λ (k : ℕ). get_elem? (set vs other gone) k ≡ some gone) place gone_there, refl), subst (λ (k : ℕ). Follows names k w.seen r.base) place g.follows) in
        let mine : (j : ℕ) (l : List I) → get_elem? (v.kept ++ w.seen ∷ []) j ≡ some l → KeptAt names (set vs other gone) r.base j l =
        (λ j l e. ⊎_elim (λ was. keep j l (r.kept id v at j l was)) (λ (h : (j ≡ length v.kept) × (w.seen ≡ l)). subst (λ (y : ℕ × List I). KeptAt names (set vs other gone) r.base y.0 y.1) (λ k. (sym h.0 k, h.1 k)) last) (at_end v.kept w.seen l j e)) in
        record {
          out = r.out;
          serving = r.serving;
          base = r.base;
          words = r.words;
          served = r.served;
          counted = (let c = r.counted in omega arith);
          few = (let x = r.few.0 in (omega arith, r.few.1));
          each = subst (λ (c : ℕ). (j : ℕ) (d : V) → get_elem? (set vs other gone) j ≡ some d → IsLive d.stage → Fits {S = S} names opening c r.out r.serving r.base s.homes j d) (sym len') each';
          apart = apart_set vs other gone (λ j d _ e t h theirs. h) (apart_set s.views id b (λ j d _ e t h theirs. no_ticket v.stage out_v t h) r.apart);
          kept = stays (λ i d. (j : ℕ) (l : List I) → get_elem? d.kept j ≡ some l → KeptAt names (set vs other gone) r.base j l) vs other gone (λ j l e. absurd (some-ne-none l (sym e)))
              (λ i d _ e. stays (λ i d. (j : ℕ) (l : List I) → get_elem? d.kept j ≡ some l → KeptAt names (set vs other gone) r.base j l) s.views id b mine (λ i d _ e j l k. keep j l (r.kept i d e j l k)) i d e);
          lies = lies_set r.base s.homes vs other w gone there (outside w out_w) (lies_set r.base s.homes s.views id v b at (outside v out_v) r.lies);
          since = subst (λ (c : ℕ). Since names c opening r.base) (sym len') r.since;
        }

    -- what the last state is, where one pass took all others in
    pub closes : (s : St) (id : ℕ) (v : V) → Seen Rule id v s → v.number ≡ 0 → v.stage ≡ Outside → length v.kept + 1 ≡ seats
        → (x : S) × (s.homes ≡ some (Some x) ∷ []) × Follows names 0 v.seen (history x) × ((j : ℕ) (l : List I) → get_elem? v.kept j ≡ some l → Follows names (j + 1) l (history x)) × Since names seats opening (history x)
    closes s id v seen zeroth outside all = go seen.0.lies
      where
        live : IsLive v.stage
        live = subst IsLive (sym outside) tt

        here : id ≡ 0
        here = sym (seen.0.each id v seen.1 live).number ∙ zeroth

        -- each other pass was taken in
        out_there : (i : ℕ) (u : V) (t : ℕ) (e : List I) → get_elem? s.views i ≡ some u → u.stage ≡ Inside t e → ⊥
        out_there zero u t e at is = let same : u ≡ v = same_at s.views 0 u v at (subst (λ (k : ℕ). get_elem? s.views k ≡ some v) here seen.1) in
            let both : Inside t e ≡ Outside = sym is ∙ (ap (λ (y : V). y.stage) same ∙ outside) in subst (λ (st : Stage I). HasTicket st t) both refl
        out_there (suc j) u t e at is =
            let lt = (at_get s.views (suc j) u at).0 in
            let few = seen.0.few.0 in
            let l = some_at v.kept j (omega arith) in
            let k = seen.0.kept id v seen.1 j l.0 l.1 in
            let n : j + 1 ≡ suc j = omega arith in
            let same : u ≡ k.0.0 = same_at s.views (suc j) u k.0.0 at (subst (λ (i : ℕ). get_elem? s.views i ≡ some k.0.0) n k.0.1) in
            let both : Inside t e ≡ Spent = sym is ∙ (ap (λ (y : V). y.stage) same ∙ k.0.2) in
            subst (λ (st : Stage I). HasTicket st t) both refl

        go : Lies history seen.0.base s.homes s.views
            → (x : S) × (s.homes ≡ some (Some x) ∷ []) × Follows names 0 v.seen (history x) × ((j : ℕ) (l : List I) → get_elem? v.kept j ≡ some l → Follows names (j + 1) l (history x)) × Since names seats opening (history x)
        go (inl h) = (
          h.0,
          h.1,
          subst (Follows names 0 v.seen) (sym h.2) (subst (λ (k : ℕ). Follows names k v.seen seen.0.base) here (seen.0.each id v seen.1 live).follows),
          (λ j l e. subst (Follows names (j + 1) l) (sym h.2) (seen.0.kept id v seen.1 j l e).1),
          subst (Since names seats opening) (sym h.2) (since_wider names (length s.views) seats opening seen.0.base seen.0.few.0 seen.0.since),
        )
        go (inr h) = absurd (out_there h.1.0 h.1.1 h.1.2 seen.0.base h.1.3 h.1.4)

-- what a look tells one whose ticket is served
pub let_in : {S I : Type 0} (history : S → List I) (names : I → Option ℕ) (st : Step (Option S)) (v : View I) (t found : ℕ) (me now : Me (Option S) (View I)) → looked history names st me found now → me ≡ (staged v (Waiting t), []) → found ≡ t
    → (x : S) × (now ≡ (staged v (Inside t (history x)), (0, Some x) ∷ [])) × Enters names v.number v.seen (history x)
let_in history names st v t found me now h e is = let g = subst (λ m. looked history names st m found now) e h in (g t refl).0 is

pub some_is : {S : Type 0} (x y : S) → Some x ≡ Some y → x ≡ y
some_is x y e = ap (or_else x) e

-- the same, of a view that waits
pub let_in_at : {S I : Type 0} (history : S → List I) (names : I → Option ℕ) (st : Step (Option S)) (t found : ℕ) (me now : Me (Option S) (View I)) → looked history names st me found now → me.0.stage ≡ Waiting t → me.1 ≡ [] → found ≡ t
    → (x : S) × (now ≡ (staged me.0 (Inside t (history x)), (0, Some x) ∷ [])) × Enters names me.0.number me.0.seen (history x)
let_in_at history names st t found me now h waits bare is = let r = (h t waits).0 is in (r.0, r.1 ∙ ap (λ c. (staged me.0 (Inside t (history r.0)), (0, Some r.0) ∷ c)) bare, r.2)
