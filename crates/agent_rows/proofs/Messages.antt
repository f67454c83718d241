-- The target of a message, and what postMessage comes to.
use Rattle.std.specs.Prelude.{◌≡◌, refl, List, ℕ, [], ◌∷◌, Some, None, true, codes}
use Rattle.std.proofs.Common.{rules}
use Rattle.plain_data.specs.declared.data.Data.{Data, the_lemmas}
use Rattle.plain_data.specs.declared.data.Data.TheVariants as data'
use Rattle.window_props.specs.declared.value.Value.TheVariants as value
use Rattle.tree_log.specs.declared.entry.Target.TheVariants as target
use Rattle.agent_terms.specs.declared.outcome.Outcome.TheVariants as outcome
use Rattle.agent_terms.specs.declared.outcome.Ask.TheVariants as ask
use Rattle.object_access.specs.Values.{null, text, truth, text_of}
use Rattle.object_access.specs.Methods.{target_text, target_of, posted}
use Rattle.agent_rows.specs.Logs.{a_test}

-- THE TEXT OF THE TARGET

-- no second argument, null, and a list are as the text `/`
pub text_of_none : target_text None ≡ Some (codes "/")
unfolding target_text
text_of_none = refl

pub text_of_null : target_text (Some null) ≡ Some (codes "/")
unfolding target_text
text_of_null = search (rules, the_lemmas)

pub text_of_list : target_text (Some (value.Plain (data'.List []))) ≡ Some (codes "/")
unfolding target_text
text_of_list = search (rules, the_lemmas)

-- any other data is turned into its text
pub text_of_text : target_text (Some (text (codes "https://a.test"))) ≡ Some (codes "https://a.test")
unfolding target_text text_of
text_of_text = search (rules, the_lemmas)

pub text_of_truth : target_text (Some (truth true)) ≡ Some (codes "true")
unfolding target_text text_of
text_of_truth = search (rules, the_lemmas)

-- a record is one of options: its field counts, where it has one
abbrev pub options : List ℕ → Data → Data
options name given = data'.Record ((name, given) ∷ [])

pub text_of_options : target_text (Some (value.Plain (options (codes "targetOrigin") (data'.Text (codes "*"))))) ≡ Some (codes "*")
unfolding target_text text_of
text_of_options = search (rules, the_lemmas)

pub text_of_undefined_field : target_text (Some (value.Plain (options (codes "targetOrigin") data'.Undefined))) ≡ Some (codes "/")
unfolding target_text text_of
text_of_undefined_field = search (rules, the_lemmas)

pub text_of_other_options : target_text (Some (value.Plain (options (codes "transfer") (data'.List [])))) ≡ Some (codes "/")
unfolding target_text text_of
text_of_other_options = search (rules, the_lemmas)

-- an object of the platform has none
pub text_of_window : target_text (Some (value.Window 0)) ≡ None
unfolding target_text
text_of_window = refl

-- THE TARGET

-- `/` is the origin of the sender, and `*` any
pub target_of_sender : target_of a_test (codes "/") ≡ Some (target.Origin a_test)
unfolding target_of
target_of_sender = refl

pub target_of_any : target_of a_test (codes "*") ≡ Some target.Any
unfolding target_of
target_of_any = refl

-- POST MESSAGE

-- a document of a.test posts to the document d3: the message is data, for the sender's origin or for any
pub posts_to_own : posted a_test 3 (text (codes "hello") ∷ []) ≡ outcome.Ask (ask.Post 3 (target.Origin a_test) (data'.Text (codes "hello")))
unfolding posted target_text target_of
posts_to_own = refl

pub posts_to_any : posted a_test 3 (text (codes "hello") ∷ text (codes "*") ∷ []) ≡ outcome.Ask (ask.Post 3 target.Any (data'.Text (codes "hello")))
unfolding posted target_text target_of text_of
posts_to_any = search (rules, the_lemmas)

-- no argument, or a Window in place of the target, is a TypeError; a Window can't be cloned
pub posts_no_argument : posted a_test 3 [] ≡ outcome.TypeFault
unfolding posted
posts_no_argument = refl

pub posts_to_window : posted a_test 3 (text (codes "hello") ∷ value.Window 0 ∷ []) ≡ outcome.TypeFault
unfolding posted target_text
posts_to_window = refl

pub posts_no_window : posted a_test 3 (value.Window 0 ∷ text (codes "*") ∷ []) ≡ outcome.DataClone
unfolding posted target_text target_of text_of
posts_no_window = search (rules, the_lemmas)
