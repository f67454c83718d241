-- What was heard, and the news of a reply.
use Rattle.std.proofs.Common.{◌≡◌, ℕ, ◌+◌, ◌-◌, ◌<◌, ◌≤◌, List, [], ◌∷◌, ◌++◌, length, reverse, take, take_all, Bool, true, false, refl, sym, ap, subst, ◌∙◌, arith, inl, inr, length-append, append_assoc, if◌then◌else◌}
use Rattle.std.specs.Prelude.{nat_le, nat_lt, ◌&&◌}
use Rattle.std.proofs.lemmas.Bool.{cases_lt}
use Rattle.std.proofs.lemmas.Bool.Decides.{nat_tests}
use Rattle.std.proofs.lemmas.List.{length-take, length-take-le, length-reverse, reverse-reverse, reverse-append}
use Rattle.agent_terms.specs.declared.request.ReplyOutcome.{ReplyOutcome}
use Rattle.coordinator_rules.specs.Told.{told_log, news_from}
use Rattle.desk.proofs.Histories.{split}
use Rattle.frame_grammar.specs.Cut.{ReplyParts, cut_at, cut_reply, is_telling, reply_telling, told_of}
use Rattle.link_wire.specs.Links.{are_admitted}
use Rattle.tree_log.specs.declared.entry.Entry.{Entry}
use Rattle.tree_log.specs.Admits.{admits, AreAdmitted}
use Rattle.tree_log.specs.Log.{prefix}
use Rattle.tree_log.specs.Tree.{tree_of}
use Rattle.tree_log.proofs.Places.{prefix_length, prefix_take, prefix_whole}
use Rattle.link_port.proofs.Told.{told_length}

-- THE NEWS OF A REPLY

-- what a reply holds that tells of these entries, behind so many that were told
pub record Tells (o : ReplyOutcome) (told : ℕ) (news : List Entry) (p : ReplyParts) : Type 0 where
  pub outcome : p.outcome ≡ o
  pub count : ℕ
  pub shown : p.news ≡ take count news
  pub more : p.more ≡ (is_telling o && nat_lt (length p.news) (length news))
  pub from : is_telling o ≡ true → p.from ≡ told

more_alike : (k : ℕ) (news : List Entry) → nat_lt k (length news) ≡ nat_lt (length (take k news)) (length news)
more_alike k news = elim (cases_lt k (length news)) [
  | inl lt ↦ ap (λ n. nat_lt n (length news)) (sym (length-take-le k news (omega arith)))
  | inr le ↦ let whole : take k news ≡ news = take_all k news le in rw whole (grind (arith, nat_tests))
]

pub telling_tells : (o : ReplyOutcome) (told : ℕ) (news : List Entry) → Tells o told news (reply_telling o told news)
unfolding reply_telling cut_reply
telling_tells o told news = by_kind (is_telling o) refl
  where
    by_kind : (b : Bool) → is_telling o ≡ b → Tells o told news (if b then cut_at o told news (told_of o told news (length news)) else cut_at o 0 [] 0)
    by_kind true e = record {
      outcome = refl;
      count = told_of o told news (length news);
      shown = refl;
      more = rw e (more_alike (told_of o told news (length news)) news);
      from = λ h. refl;
    }
    by_kind false e = record { outcome = refl; count = 0; shown = refl; more = rw e refl; from = λ h. absurd (let clash : true ≡ false = sym h ∙ e in cc) }

-- WHAT WAS HEARD GROWS

over_if : (k n : ℕ) (e : Entry) (xs base : List Entry) (b : Bool) → nat_le k (length xs) ≡ b → n ≡ length base + k → (k ≤ length xs → prefix n (xs ++ base) ≡ prefix k xs ++ base)
    → (if nat_le n (length (xs ++ base)) then prefix n (xs ++ base) else e ∷ xs ++ base) ≡ (if b then prefix k xs else e ∷ xs) ++ base
over_if k n e xs base true q is below =
    let le : k ≤ length xs = grind (arith, nat_tests) in
    let long : length (xs ++ base) ≡ length xs + length base = length-append xs base in
    let inside : nat_le n (length (xs ++ base)) ≡ true = grind (arith, nat_tests) in
    rw inside (below le)
over_if k n e xs base false q is below =
    let lt : length xs < k = grind (arith, nat_tests) in
    let long : length (xs ++ base) ≡ length xs + length base = length-append xs base in
    let beyond : nat_le n (length (xs ++ base)) ≡ false = grind (arith, nat_tests) in
    rw beyond refl

-- the oldest entries of a longer log, as many as the log has and k more
prefix_over : (xs base : List Entry) (k n : ℕ) → n ≡ length base + k → k ≤ length xs → prefix n (xs ++ base) ≡ prefix k xs ++ base
unfolding prefix
prefix_over [] base k n is le = prefix_whole base n (omega arith)
prefix_over (e ∷ xs) base k n is le = over_if k n e xs base (nat_le k (length xs)) refl is (λ lower. prefix_over xs base k n is lower)

-- the first of the newer entries, read from the oldest on
first_newer : (k : ℕ) (xs : List Entry) → reverse (take k (reverse xs)) ≡ prefix k xs
first_newer k xs = sym (prefix_take (reverse xs) k) ∙ ap (prefix k) (reverse-reverse xs)

front_of : (k : ℕ) (xs : List Entry) → prefix k xs ≡ prefix (length (take k (reverse xs))) xs
front_of k xs = elim (cases_lt k (length xs)) [
  | inl lt ↦ ap (λ n. prefix n xs) (sym (length-take-le k (reverse xs) (omega (arith, length-reverse xs))))
  | inr le ↦
      let all : length (take k (reverse xs)) ≡ length xs = ap length (take_all k (reverse xs) (omega (arith, length-reverse xs))) ∙ length-reverse xs in
      prefix_whole xs k le ∙ sym (prefix_whole xs (length (take k (reverse xs))) (omega arith))
]

-- so many entries of a log were heard; with the first ones of the others, so many more
pub grows : (all : List Entry) (told k : ℕ) (news : List Entry) → told ≤ length all → news ≡ take k (reverse (take (length all - told) all)) → reverse news ++ prefix told all ≡ prefix (told + length news) all
grows all told k news le is =
    let newer : List Entry = take (length all - told) all in
    let base : List Entry = prefix told all in
    let long : length base ≡ told = prefix_length all told le in
    let size : length news ≡ length (take k (reverse newer)) = ap length is in
    let few : length news ≤ length newer = omega (arith, length-take k (reverse newer), length-reverse newer) in
    let front : reverse news ≡ prefix (length news) newer = ap reverse is ∙ first_newer k newer ∙ front_of k newer ∙ ap (λ n. prefix n newer) (sym size) in
    ap (λ (xs : List Entry). xs ++ base) front ∙ sym (prefix_over newer base (length news) (told + length news) (omega arith) few) ∙ ap (prefix (told + length news)) (split told all)

-- the same of what a renderer heard of a log, and of a reply to it
pub heard_grows : (r told : ℕ) (log : List Entry) (o : ReplyOutcome) (p : ReplyParts) → told ≤ length log → Tells o told (news_from r told log) p
    → reverse p.news ++ prefix told (told_log r log) ≡ prefix (told + length p.news) (told_log r log)
heard_grows r told log o p le tells =
    let all : List Entry = told_log r log in
    let long : length all ≡ length log = told_length r log in
    grows all told tells.count p.news (omega arith) (tells.shown ∙ ap (λ n. take tells.count (reverse (take (n - told) all))) (sym long))

-- EACH OF THE NEWS CAN FOLLOW

-- entries, the oldest first, in front of a log
front : (e : Entry) (es base : List Entry) → reverse (e ∷ es) ++ base ≡ reverse es ++ e ∷ base
front e es base = ap (λ xs. xs ++ base) (reverse-append (e ∷ []) es) ∙ append_assoc (reverse es) (e ∷ []) base

older_admitted : (more base : List Entry) → AreAdmitted (more ++ base) → AreAdmitted base
older_admitted [] base h = h
older_admitted (e ∷ more) base h = older_admitted more base h.1

and_true : (a b : Bool) → a ≡ true → b ≡ true → (a && b) ≡ true
and_true true b h k = k
and_true false b h k = h

pub news_admitted : (news base : List Entry) → AreAdmitted (reverse news ++ base) → are_admitted base news ≡ true
unfolding are_admitted
news_admitted [] base h = refl
news_admitted (e ∷ es) base h =
    let moved : AreAdmitted (reverse es ++ e ∷ base) = subst AreAdmitted (front e es base) h in
    let last : AreAdmitted (e ∷ base) = older_admitted (reverse es) (e ∷ base) moved in
    and_true (admits (tree_of base) e) (are_admitted (e ∷ base) es) last.0 (news_admitted es (e ∷ base) moved)
