-- Names that are empty, and others.
use Rattle.std.proofs.Common.{◌≡◌, ℕ, List, [], ◌∷◌, true, false, refl, length, eqb, arith}
use Rattle.std.proofs.lemmas.Bool.{eqb-true}
use Rattle.std.specs.Prelude.{bytes_eq, String, Vec}
use Rattle.indexmap.specs.IndexMap.{IndexMap}
use Rattle.indexed_view.specs.Families.{HasRoom, HasRoomIfAny}
use Rattle.indexed_view.specs.Live.{is_name}

pub none_is : (name q : List ℕ) → eqb (length name) 0 ≡ true → is_name name q ≡ false
none_is [] q h = refl
none_is (x ∷ name) q h = let e = eqb-true (length (x ∷ name)) 0 h in absurd (omega (arith, e))

pub one_is : (name q : List ℕ) → eqb (length name) 0 ≡ false → is_name name q ≡ bytes_eq name q
one_is [] q h = absurd cc
one_is (x ∷ name) q h = refl

pub is_full : (name : List ℕ) (x : ℕ) (q : List ℕ) → is_name name (x ∷ q) ≡ bytes_eq name (x ∷ q)
is_full [] x q = refl
is_full (y ∷ name) x q = refl

pub room_of_none : {Y Z S : Type 0} (names : IndexMap (String Y) (Vec ℕ Z) S) (name : List ℕ) → eqb (length name) 0 ≡ true → HasRoomIfAny names name
room_of_none names [] h = tt
room_of_none names (x ∷ name) h = let e = eqb-true (length (x ∷ name)) 0 h in absurd (omega (arith, e))

pub room_of_one : {Y Z S : Type 0} (names : IndexMap (String Y) (Vec ℕ Z) S) (name : List ℕ) → HasRoom names name → HasRoomIfAny names name
room_of_one names [] h = tt
room_of_one names (x ∷ name) h = h

pub room_is : {Y Z S : Type 0} (names : IndexMap (String Y) (Vec ℕ Z) S) (name : List ℕ) → eqb (length name) 0 ≡ false → HasRoomIfAny names name → HasRoom names name
room_is names [] e h = absurd cc
room_is names (x ∷ name) e h = h

-- room that stays for each name
pub room_stays : {Y Z S : Type 0} (old new : IndexMap (String Y) (Vec ℕ Z) S) (name : List ℕ) → ((q : List ℕ) → HasRoom old q → HasRoom new q) → HasRoomIfAny old name → HasRoomIfAny new name
room_stays old new [] keeps h = tt
room_stays old new (x ∷ name) keeps h = keeps (x ∷ name) h
