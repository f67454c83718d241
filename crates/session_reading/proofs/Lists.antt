-- How many items and members there are.
use Rattle.std.proofs.Common.{String, Global, ◌≡◌, ℕ, ◌≤◌, List, [], length, Some, true, nat_le, refl, arith}
use Rattle.std.proofs.lemmas.Bool.Decides.{nat_tests}
use Rattle.serde_json.specs.Find.{as_array}
use Rattle.session_reading.specs.Refusing.{Outcome}
use Rattle.session_reading.specs.Reading.{Json, list_of, each}
use Rattle.serde_json.proofs.Views.{items_len-items_view, members_len-members_view}
use Rattle.serde_json.specs.Events.{items_len, members_len}
use Rattle.serde_json.specs.View.{items_view, members_view}
use Rattle.serde_json.specs.declared.value.Value.{Value}

pub length_of_items : (vs : List Value) → items_len (items_view vs) ≡ length vs
length_of_items vs = items_len-items_view vs

-- a list of a good length is read item by item
pub list_of_read : {A : Type 0} (least most : ℕ) (read : List A → Json → Outcome A) (j : Json) (vs : List Value) → as_array j ≡ Some (items_view vs) → least ≤ length vs → length vs ≤ most → list_of least most read j ≡ each read [] (items_view vs)
unfolding list_of
list_of_read least most read j vs e low high =
    let a : nat_le least (length vs) ≡ true = grind (arith, nat_tests) in
    let b : nat_le (length vs) most ≡ true = grind (arith, nat_tests) in
    rw (e, length_of_items, a, b) refl

pub length_of_members : (es : List (String Global × Value)) → members_len (members_view es) ≡ length es
length_of_members es = members_len-members_view es
