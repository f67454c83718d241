-- What was read has each object's members in the order of their names, each name once.
use Rattle.std.proofs.Common.{◌≡◌, ℕ, List, Option, Some, None, Ordering, Less, Equal, Greater, option_map, option_and_then, nat_cmp, refl, ap, ◌∙◌, subst}
use Rattle.std.specs.Prelude.{⊤}
use Rattle.std.specs.Ordering.{match_ordering, ordering_reverse}
use Rattle.std.specs.Cmp.Lexicographic.{slice_cmp}
use Rattle.std.proofs.lemmas.Cmp.{nat_list_cmp_total}
use Rattle.json.specs.Json as json
use Rattle.json.specs.Lex.{tokens}
use Rattle.serde_json.specs.Data.{Data, Members, no_members, member, item, number, array, object, put}
use Rattle.serde_json.specs.Read.{of_json, of_items, of_members, number_of, max_depth, read}
use Rattle.session_reading.specs.Tidy.{IsBelow, AreAscending, IsTidy, AreTidy, MembersAreTidy}

abbrev cmp : List ℕ → List ℕ → Ordering
cmp = slice_cmp nat_cmp

below_match : (o : Ordering) (l : List ℕ) (a b c : Members) → IsBelow l a → IsBelow l b → IsBelow l c → IsBelow l (match_ordering o a b c)
below_match Less l a b c x y z = x
below_match Equal l a b c x y z = y
below_match Greater l a b c x y z = z

below_put : (l k : List ℕ) (d : Data) (ms : Members) → cmp l k ≡ Less → IsBelow l ms → IsBelow l (put k d ms)
below_put l k d no_members lt b = lt
below_put l k d (member m e ms) lt b = below_match (cmp k m) l (member k d (member m e ms)) (member m d ms) (member m e (put k d ms)) lt b b

turned : (k m : List ℕ) → cmp k m ≡ Greater → cmp m k ≡ Less
turned k m e = nat_list_cmp_total.antisymm m k ∙ ap ordering_reverse e

ascending_put_at : (o : Ordering) (k m : List ℕ) (d e : Data) (ms : Members) → cmp k m ≡ o → AreAscending (member m e ms) → AreAscending (put k d ms)
    → AreAscending (match_ordering o (member k d (member m e ms)) (member m d ms) (member m e (put k d ms)))
ascending_put_at Less k m d e ms is h later = (is, h)
ascending_put_at Equal k m d e ms is h later = h
ascending_put_at Greater k m d e ms is h later = (below_put m k d ms (turned k m is) h.0, later)

ascending_put : (k : List ℕ) (d : Data) (ms : Members) → AreAscending ms → AreAscending (put k d ms)
ascending_put k d no_members h = (tt, tt)
ascending_put k d (member m e ms) h = ascending_put_at (cmp k m) k m d e ms refl h (ascending_put k d ms h.1)

tidy_put_at : (o : Ordering) (a b c : Members) → MembersAreTidy a → MembersAreTidy b → MembersAreTidy c → MembersAreTidy (match_ordering o a b c)
tidy_put_at Less a b c x y z = x
tidy_put_at Equal a b c x y z = y
tidy_put_at Greater a b c x y z = z

tidy_put : (k : List ℕ) (d : Data) (ms : Members) → IsTidy d → MembersAreTidy ms → MembersAreTidy (put k d ms)
tidy_put k d no_members x h = (x, tt)
tidy_put k d (member m e ms) x h = tidy_put_at (cmp k m) _ _ _ (x, h) (x, h.1) (h.0, tidy_put k d ms x h.1)

abbrev IfThere : {A : Type 0} → (A → Type 0) → Option A → Type 0
IfThere P None = ⊤
IfThere P (Some a) = P a

there-map : {A B : Type 0} (P : A → Type 0) (Q : B → Type 0) (f : A → B) → ((a : A) → P a → Q (f a)) → (o : Option A) → IfThere P o → IfThere Q (option_map f o)
there-map P Q f h None x = tt
there-map P Q f h (Some a) x = h a x

there-and_then : {A B : Type 0} (P : A → Type 0) (Q : B → Type 0) (f : A → Option B) → ((a : A) → P a → IfThere Q (f a)) → (o : Option A) → IfThere P o → IfThere Q (option_and_then f o)
there-and_then P Q f h None x = tt
there-and_then P Q f h (Some a) x = h a x

anything : {A : Type 0} (o : Option A) → IfThere (λ _. ⊤) o
anything None = tt
anything (Some a) = tt

abbrev AreGood : Members → Type 0
AreGood ms = AreAscending ms × MembersAreTidy ms

mutual
  tidy_json : (j : json.Json) → IfThere IsTidy (of_json j)
  tidy_json json.null = tt
  tidy_json (json.boolean b) = tt
  tidy_json (json.number s) = there-map (λ _. ⊤) IsTidy number (λ a x. tt) (number_of s) (anything _)
  tidy_json (json.string s) = tt
  tidy_json (json.array js) = there-map AreTidy IsTidy array (λ a x. x) (of_items js) (tidy_items js)
  tidy_json (json.object ms) = there-map AreGood IsTidy object (λ a x. x) (of_members ms no_members) (tidy_members ms no_members (tt, tt))

  tidy_items : (js : json.Items) → IfThere AreTidy (of_items js)
  tidy_items json.no_items = tt
  tidy_items (json.item j js) = there-and_then IsTidy AreTidy _ (λ d x. there-map AreTidy AreTidy (item d) (λ ds y. (x, y)) (of_items js) (tidy_items js)) (of_json j) (tidy_json j)

  tidy_members : (ms : json.Members) (found : Members) → AreGood found → IfThere AreGood (of_members ms found)
  tidy_members json.no_members found h = h
  tidy_members (json.member name j ms) found h =
      there-and_then IsTidy AreGood _ (λ d x. tidy_members ms (put name d found) (ascending_put name d found h.0, tidy_put name d found x h.1)) (of_json j) (tidy_json j)

tidy_found : (o : Option json.Json) → IfThere IsTidy (option_and_then of_json o)
tidy_found None = tt
tidy_found (Some j) = tidy_json j

abbrev parsed : List ℕ → Option json.Json
parsed text = option_and_then (λ p. json.if_last p.0 p.1) (json.value max_depth (tokens text))

pub tidy_read : (text : List ℕ) (d : Data) → read text ≡ Some d → IsTidy d
tidy_read text d e = subst (IfThere IsTidy) e (tidy_found (parsed text))
