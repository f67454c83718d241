-- What is told of an admitted log: blanking asks only of documents that are there.
use Rattle.std.proofs.Common.{◌≡◌, ℕ, ◌+◌, ◌<◌, ◌≤◌, ◌^◌, List, [], ◌∷◌, length, codes, Option, Some, None, Bool, true, false, refl, ap, sym, subst, ◌∙◌, not, if◌then◌else◌, arith}
use Rattle.std.specs.Prelude.{◌==◌, ◌||◌}
use Rattle.std.proofs.lemmas.Bool.{false≢true, eqb-true, eq-eqb}
use Rattle.origin_core.specs.Origin.{blank_text}
use Rattle.tree_log.specs.declared.entry.Entry.{Entry}
use Rattle.tree_log.specs.declared.entry.Load.{Load}
use Rattle.tree_log.specs.declared.entry.What.{What}
use Rattle.tree_log.specs.declared.entry.What.TheVariants.{Open, Frame, Begin, Fragment, Post, Fire, Lapse}
use Rattle.tree_log.specs.Facts.{Birth, docs_after, loads_of}
use Rattle.tree_log.specs.Tree.{Tree, tree_of, tree_after, tree_of_step, home_of}
use Rattle.tree_log.specs.Admits.{admits, has, AreAdmitted}
use Rattle.tree_log.specs.Blanking.{blank, blanked, hidden, is_homed, is_open_to}
use Rattle.tree_log.proofs.Admitted.{both, lt_of, born_stays, what_admitted}
use Rattle.tree_log.proofs.BlankLaws.{tree_of-blanked}
use Rattle.agent_terms.specs.declared.session.Session.{Session}
use Rattle.single_agent.specs.LegalLog.{IsLegalLog}
use Rattle.single_agent.specs.Shown.{is_seen_by, shown_to}
use Rattle.log_laws.specs.Homes.{ActorsLoaded}
use Rattle.coordinator_rules.specs.Told.{told_log}
use Rattle.agent_laws.proofs.Logs.Entries.{entry, open_next, frame_next, begin_next, IsNextLoad}
use Rattle.agent_laws.proofs.Groups.Well.{more_docs}
use Rattle.agent_laws.proofs.Logs.Admitted.{legal_admitted}
use Rattle.log_laws.proofs.Homes.HomeLaw.{open_documents}

-- the document that blanking asks about
abbrev doc_of : Option Load → Option ℕ
doc_of None = None
doc_of (Some load) = Some load.doc

abbrev asked_about : What → Option ℕ
asked_about (Open _ _ _ _ _ _ _ _ _ load) = doc_of load
asked_about (Frame _ _ _ _ _ _ load) = doc_of load
asked_about (Begin _ load) = Some load.doc
asked_about (Fragment _ doc _) = Some doc
asked_about (Post to _ _ _ _) = Some to
asked_about (Fire doc _) = Some doc
asked_about (Lapse doc _ _) = Some doc
asked_about w = None

load_below : (docs d : ℕ) (load : Option Load) → IsNextLoad docs load → doc_of load ≡ Some d → d < docs + (1 + loads_of load)
load_below docs d None next is = absurd cc
load_below docs d (Some load) next is = let same : load.doc ≡ d = cc in omega arith

-- that document is there once the entry stands
asked_below : (t : Tree) (by actor : Option ℕ) (w : What) (d : ℕ) → admits t (entry by actor w) ≡ true → asked_about w ≡ Some d → d < docs_after w t.docs
asked_below t by actor (Open nav doc group home origin name opener flags navigator load) d h is =
    load_below t.docs d load (open_next t by actor nav doc group home origin name opener flags navigator load (what_admitted t (entry by actor (Open nav doc group home origin name opener flags navigator load)) h)).new_load is
asked_below t by actor (Frame nav doc home origin name flags load) d h is =
    load_below t.docs d load (frame_next t by actor nav doc home origin name flags load (what_admitted t (entry by actor (Frame nav doc home origin name flags load)) h)).new_load is
asked_below t by actor (Begin nav load) d h is =
    let next = begin_next t by actor nav load (what_admitted t (entry by actor (Begin nav load)) h) in
    let new : load.doc ≡ t.docs = next.1 in
    let same : load.doc ≡ d = cc in
    omega arith
asked_below t by actor (Fragment nav doc url) d h is =
    let same : doc ≡ d = cc in subst (λ (x : ℕ). x < t.docs) same (lt_of doc t.docs (both _ (has t.docs doc) (what_admitted t (entry by actor (Fragment nav doc url)) h)).1)
asked_below t by actor (Post to from origin target body) d h is =
    let parts = both _ (has t.navs from) (what_admitted t (entry by actor (Post to from origin target body)) h) in
    let same : to ≡ d = cc in subst (λ (x : ℕ). x < t.docs) same (lt_of to t.docs (both _ (has t.docs to) parts.0).1)
asked_below t by actor (Fire doc post) d h is =
    let same : doc ≡ d = cc in subst (λ (x : ℕ). x < t.docs) same (lt_of doc t.docs (both _ (has t.docs doc) (what_admitted t (entry by actor (Fire doc post)) h)).1)
asked_below t by actor (Lapse doc post cause) d h is =
    let same : doc ≡ d = cc in subst (λ (x : ℕ). x < t.docs) same (lt_of doc t.docs (both _ (has t.docs doc) (what_admitted t (entry by actor (Lapse doc post cause)) h)).1)
asked_below t by actor w d h is = absurd cc

asked_there : (t : Tree) (e : Entry) (d : ℕ) → admits t e ≡ true → asked_about e.what ≡ Some d → d < (tree_after t e).docs
unfolding tree_after
asked_there t e d h is = asked_below t e.by e.actor e.what d h is

-- ALIKE BLANKING

blank_alike : (k l : ℕ → Bool) (by actor : Option ℕ) (w : What) → ((d : ℕ) → asked_about w ≡ Some d → k d ≡ l d) → blank k (entry by actor w) ≡ blank l (entry by actor w)
blank_alike k l by actor (Open nav doc group home origin name opener flags navigator None) h = refl
blank_alike k l by actor (Open nav doc group home origin name opener flags navigator (Some load)) h = rw (h load.doc refl) refl
blank_alike k l by actor (Frame nav doc home origin name flags None) h = refl
blank_alike k l by actor (Frame nav doc home origin name flags (Some load)) h = rw (h load.doc refl) refl
blank_alike k l by actor (Begin nav load) h = rw (h load.doc refl) refl
blank_alike k l by actor (Fragment nav doc url) h = rw (h doc refl) refl
blank_alike k l by actor (Post to from origin target body) h = rw (h to refl) refl
blank_alike k l by actor (Fire doc post) h = rw (h doc refl) refl
blank_alike k l by actor (Lapse doc post cause) h = rw (h doc refl) refl
blank_alike k l by actor w h = refl

home_stays : (t : Tree) (e : Entry) (d : ℕ) → admits t e ≡ true → d < t.docs → home_of (tree_after t e) d ≡ home_of t d
home_stays t e d h lt = ap (λ (b : Birth). b.home) (born_stays t e d h lt)

told_at : (r : ℕ) (k : ℕ → Bool) (log : List Entry) → AreAdmitted log → ((d : ℕ) → d < (tree_of log).docs → k d ≡ is_homed (tree_of log) r d) → blanked k log ≡ told_log r log
told_at r k [] all h = refl
told_at r k (e ∷ older) all h =
    let t : Tree = tree_of older in
    let step : tree_of (e ∷ older) ≡ tree_after t e = tree_of_step e older in
    let here : blank k e ≡ blank (is_homed (tree_of (e ∷ older)) r) e =
    blank_alike k (is_homed (tree_of (e ∷ older)) r) e.by e.actor e.what (λ d is. h d (subst (λ (s : Tree). d < s.docs) (sym step) (asked_there t e d all.0 is))) in
    let later : blanked k older ≡ told_log r older =
    told_at r k older all.1 (λ d lt.
    let there : d < (tree_of (e ∷ older)).docs = subst (λ (s : Tree). d < s.docs) (sym step) (omega (arith, more_docs t e)) in
    h d there ∙ ap (λ (s : Tree). is_homed s r d) step ∙ ap (λ (x : ℕ). x == r) (home_stays t e d all.0 lt)) in
    ap (λ (x : Entry). x ∷ blanked k older) here ∙ ap (λ (xs : List Entry). blank (is_homed (tree_of (e ∷ older)) r) e ∷ xs) later

-- in an admitted log, what a renderer is told entry by entry is the log blanked for the documents that are homed there now
pub told-blanked : (r : ℕ) (log : List Entry) → AreAdmitted log → blanked (is_homed (tree_of log) r) log ≡ told_log r log
told-blanked r log all = told_at r (is_homed (tree_of log) r) log all (λ d lt. refl)

-- BLANKED TWICE

url_twice : (k l : Bool) (url other : List ℕ) → (k ≡ true → l ≡ true) → (if k then (if l then url else other) else other) ≡ (if k then url else other)
url_twice true true url other h = refl
url_twice true false url other h = absurd (false≢true (h refl))
url_twice false l url other h = refl

hidden_twice : (k : ℕ → Bool) (by actor : Option ℕ) (w : What) (a b : Bool) → (a ≡ true → b ≡ true) → blank k (entry by actor w) ≡ (if not a then hidden else entry by actor w)
    → blank k (if not b then hidden else entry by actor w) ≡ blank k (entry by actor w)
hidden_twice k by actor w a true h e = refl
hidden_twice k by actor w true false h e = absurd (false≢true (h refl))
hidden_twice k by actor w false false h e = sym e

blank_twice : (k l : ℕ → Bool) (by actor : Option ℕ) (w : What) → ((d : ℕ) → asked_about w ≡ Some d → k d ≡ true → l d ≡ true) → blank k (blank l (entry by actor w)) ≡ blank k (entry by actor w)
blank_twice k l by actor (Open nav doc group home origin name opener flags navigator None) h = refl
blank_twice k l by actor (Open nav doc group home origin name opener flags navigator (Some load)) h =
    ap (λ (u : List ℕ). entry by actor (Open nav doc group home origin name opener flags navigator (Some (record load { url = u })))) (url_twice (k load.doc) (l load.doc) load.url (blank_text load.origin) (h load.doc refl))
blank_twice k l by actor (Frame nav doc home origin name flags None) h = refl
blank_twice k l by actor (Frame nav doc home origin name flags (Some load)) h =
    ap (λ (u : List ℕ). entry by actor (Frame nav doc home origin name flags (Some (record load { url = u })))) (url_twice (k load.doc) (l load.doc) load.url (blank_text load.origin) (h load.doc refl))
blank_twice k l by actor (Begin nav load) h =
    ap (λ (u : List ℕ). entry by actor (Begin nav (record load { url = u }))) (url_twice (k load.doc) (l load.doc) load.url (blank_text load.origin) (h load.doc refl))
blank_twice k l by actor (Fragment nav doc url) h = ap (λ (u : List ℕ). entry by actor (Fragment nav doc u)) (url_twice (k doc) (l doc) url (codes "about:blank") (h doc refl))
blank_twice k l by actor (Post to from origin target body) h = hidden_twice k by actor (Post to from origin target body) (k to) (l to) (h to refl) refl
blank_twice k l by actor (Fire doc post) h = hidden_twice k by actor (Fire doc post) (k doc) (l doc) (h doc refl) refl
blank_twice k l by actor (Lapse doc post cause) h = hidden_twice k by actor (Lapse doc post cause) (k doc) (l doc) (h doc refl) refl
blank_twice k l by actor w h = refl

twice_below : (k l : ℕ → Bool) (n : ℕ) (log : List Entry) → AreAdmitted log → (tree_of log).docs ≤ n → ((d : ℕ) → d < n → k d ≡ true → l d ≡ true) → blanked k (blanked l log) ≡ blanked k log
twice_below k l n [] all le h = refl
twice_below k l n (e ∷ older) all le h =
    let t : Tree = tree_of older in
    let docs : (tree_after t e).docs ≤ n = subst (λ (s : Tree). s.docs ≤ n) (tree_of_step e older) le in
    let here : blank k (blank l e) ≡ blank k e = blank_twice k l e.by e.actor e.what (λ d is. h d (omega (arith, asked_there t e d all.0 is))) in
    ap (λ (x : Entry). x ∷ blanked k (blanked l older)) here ∙ ap (λ (xs : List Entry). blank k e ∷ xs) (twice_below k l n older all.1 (omega (arith, more_docs t e)) h)

-- to blank for more documents first changes nothing
pub blanked_twice : (k l : ℕ → Bool) (log : List Entry) → AreAdmitted log → ((d : ℕ) → d < (tree_of log).docs → k d ≡ true → l d ≡ true) → blanked k (blanked l log) ≡ blanked k log
blanked_twice k l log all h = twice_below k l (tree_of log).docs log all (omega arith) h

-- WHAT A DOCUMENT SEES

seen_homed : (t : Tree) (asker d : ℕ) → (is_open_to t asker d ≡ true → home_of t asker ≡ home_of t d) → is_seen_by t asker d ≡ true → is_homed t (home_of t asker) d ≡ true
seen_homed t asker d h seen = by_test (d == asker) refl seen
  where
    by_test : (b : Bool) → (d == asker) ≡ b → (b || is_open_to t asker d) ≡ true → (home_of t d == home_of t asker) ≡ true
    by_test true is k = eq-eqb (home_of t d) (home_of t asker) (ap (home_of t) (eqb-true d asker is))
    by_test false is k = eq-eqb (home_of t d) (home_of t asker) (sym (h k))

-- in a legal log that no initial document acts in, a document sees of what its renderer is told what it sees of the log
pub shown_of_told : (s : Session) (log : List Entry) → IsLegalLog s log → length log < 2 ^ 30 → ActorsLoaded log → (asker : ℕ) → asker < (tree_of log).docs
    → shown_to asker (told_log (home_of (tree_of log) asker) log) ≡ shown_to asker log
shown_of_told s log legal few actors asker lt =
    let t : Tree = tree_of log in
    let all : AreAdmitted log = legal_admitted s log legal few in
    let kept : ℕ → Bool = is_homed t (home_of t asker) in
    subst (λ (l : List Entry). shown_to asker l ≡ shown_to asker log) (told-blanked (home_of t asker) log all)
    (ap (λ (x : Tree). blanked (is_seen_by x asker) (blanked kept log)) (tree_of-blanked kept log)
    ∙ blanked_twice (is_seen_by t asker) kept log all (λ d below seen. seen_homed t asker d (open_documents s log legal few actors asker d lt below) seen))
