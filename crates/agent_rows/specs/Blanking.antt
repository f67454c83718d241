-- What a document is shown of the log and of the properties: nothing of documents of other origins that scripts could not read.
use Rattle.std.specs.Prelude.{◌≡◌, refl, ℕ, List, ◌∷◌, [], false, codes, Some}
use Rattle.origin_core.specs.Origin.{blank_text}
use Rattle.origin_core.specs.declared.origin.Origin.{Origin}
use Rattle.origin_core.specs.declared.origin.Origin.TheVariants.{Tuple, Opaque}
use Rattle.origin_core.specs.declared.origin.Scheme.TheVariants.{Https}
use Rattle.plain_data.specs.declared.data.Data.TheVariants as data'
use Rattle.tree_log.specs.declared.entry.Entry.{Entry}
use Rattle.tree_log.specs.declared.entry.Target.TheVariants as target
use Rattle.tree_log.specs.declared.entry.What.TheVariants as what
use Rattle.tree_log.specs.Admits.{admits, AreAdmitted}
use Rattle.tree_log.specs.Tree.{tree_of, chain, group_of, is_active, is_discarded}
use Rattle.tree_log.specs.Blanking.{hidden, blank, is_kept}
use Rattle.tree_log.specs.Urls.{url_of}
use Rattle.window_props.specs.declared.platform.Object.{Object}
use Rattle.window_props.specs.declared.platform.Object.TheVariants as object
use Rattle.window_props.specs.History.{Store}
use Rattle.coordinator_rules.specs.NextTask.{task_entry}
use Rattle.object_access.specs.StepAnswer.{first_stores}
use Rattle.single_agent.specs.Shown.{shown_to, shown_stores}
use Rattle.coordinator_rules.specs.Decision.{by}
use Rattle.agent_rows.specs.Logs.{a_test, b_test, load, start, started, framed, started_admitted, framed_admitted}

-- URLS

-- the document d1 is shown its own URL, and the root of the foreign document's origin
pub shown_to_window : shown_to 1 framed ≡
    task_entry 1 (what.Commit 1 3 2)
    ∷ by 0 1 (what.Frame 1 2 0 a_test (codes "f") 0 (Some (load 3 1 b_test (blank_text b_test))))
    ∷ started
unfolding tree_of chain group_of
shown_to_window = refl

-- and the foreign document d3 the other way round
pub shown_to_frame : shown_to 3 framed ≡
    task_entry 1 (what.Commit 1 3 2)
    ∷ by 0 1 (what.Frame 1 2 0 a_test (codes "f") 0 (Some (load 3 1 b_test (codes "https://b.test/x"))))
    ∷ task_entry 0 (what.Commit 0 1 0)
    ∷ start 0 0 0 (load 1 0 a_test (blank_text a_test))
    ∷ []
unfolding tree_of chain group_of
shown_to_frame = refl

-- the URL of a document with an opaque origin, as of a sandboxed frame, is shown to others as that of no page
abbrev pub sandboxed : List Entry
sandboxed = task_entry 1 (what.Commit 1 3 2) ∷ by 0 1 (what.Frame 1 2 0 (Opaque 2) [] 255 (Some (load 3 1 (Opaque 3) (codes "https://a.test/secret")))) ∷ started

pub sandboxed_admitted : AreAdmitted sandboxed
unfolding admits tree_of is_active is_discarded chain
sandboxed_admitted = (refl, (refl, started_admitted))

pub sandboxed_url_hidden : url_of (shown_to 1 sandboxed) 3 ≡ codes "about:blank"
unfolding tree_of url_of chain group_of
sandboxed_url_hidden = refl

pub sandboxed_url_shown : url_of (shown_to 3 sandboxed) 3 ≡ codes "https://a.test/secret"
unfolding tree_of url_of chain group_of
sandboxed_url_shown = refl

pub own_url_shown : url_of (shown_to 1 sandboxed) 1 ≡ codes "https://a.test/"
unfolding tree_of url_of chain group_of
own_url_shown = refl

-- MESSAGES

-- d1 posts a message to the foreign d3: d3 is shown it, and d1 only that there is an entry
abbrev pub message : Entry
message = by 0 1 (what.Post 3 0 a_test target.Any (data'.Text (codes "hello")))

pub message_admitted : AreAdmitted (message ∷ framed)
unfolding admits tree_of is_active is_discarded chain
message_admitted = (refl, framed_admitted)

pub message_hidden : shown_to 1 (message ∷ framed) ≡ hidden ∷ shown_to 1 framed
unfolding tree_of chain group_of
message_hidden = refl

pub message_shown : shown_to 3 (message ∷ framed) ≡ message ∷ shown_to 3 framed
unfolding tree_of chain group_of
message_shown = refl

-- A LIST OF DOCUMENTS

-- one who sees d3 alone is not told of the message that d3's renderer sent to d1; one who sees d0 and d1 is
abbrev pub answer : Entry
answer = by 1 3 (what.Post 1 1 (Opaque 3) target.Any (data'.Text (codes "m")))

pub answer_hidden : blank (is_kept (3 ∷ [])) answer ≡ hidden
answer_hidden = refl

pub answer_shown : blank (is_kept (0 ∷ 1 ∷ [])) answer ≡ answer
answer_shown = refl

-- nor where d4 is loaded from, but for its origin
abbrev pub c_test : Origin
c_test = Tuple (record { scheme = Https; host = codes "c.test"; ip = false; port = Some 8443 })

abbrev pub begins : List ℕ → Entry
begins url = by 1 3 (what.Begin 1 (load 4 0 c_test url))

pub load_hidden : blank (is_kept (3 ∷ [])) (begins (codes "https://c.test:8443/secret?q#f")) ≡ begins (blank_text c_test)
load_hidden = refl

pub load_shown : blank (is_kept (4 ∷ [])) (begins (codes "https://c.test:8443/secret?q#f")) ≡ begins (codes "https://c.test:8443/secret?q#f")
load_shown = refl

-- nor to which fragment d3 moved
pub fragment_hidden : blank (is_kept (1 ∷ [])) (by 1 3 (what.Fragment 1 3 (codes "https://b.test/x#secret"))) ≡ by 1 3 (what.Fragment 1 3 (codes "about:blank"))
fragment_hidden = refl

-- PROPERTIES

-- of a foreign object what the platform made, whatever was done to it; of one's own what there is
pub foreign_store_hidden : (stores : Object → Store) → shown_stores (tree_of framed) 1 stores (object.Window 3) ≡ first_stores (object.Window 3)
unfolding tree_of chain group_of
foreign_store_hidden stores = refl

pub own_store_shown : (stores : Object → Store) → shown_stores (tree_of framed) 1 stores (object.Window 1) ≡ stores (object.Window 1)
unfolding tree_of chain group_of
own_store_shown stores = refl
