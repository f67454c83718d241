-- The limits of sessions and of plays. They are this project's own; those of data stand with the data.
use Rattle.std.specs.Prelude.{ℕ}

-- SESSIONS

-- how many renderers a session has at most
abbrev pub most_renderers : ℕ
most_renderers = 16

-- how many windows are open at the start at most
abbrev pub most_starts : ℕ
most_starts = 64

-- how many turns a session orders at most
abbrev pub most_turns : ℕ
most_turns = 20000

abbrev pub most_pages : ℕ
most_pages = 1000

-- how many steps a script has at most, and a handler
abbrev pub most_steps : ℕ
most_steps = 200

-- how many arguments a call has at most
abbrev pub most_args : ℕ
most_args = 2

-- how far the index of a frame goes in a step
abbrev pub most_index : ℕ
most_index = 20000

-- how many letters the name of a register has at most
abbrev pub most_letters : ℕ
most_letters = 16

-- how many bytes a public suffix has at most, as many as a domain (UTS #46, section 4.2, VerifyDnsLength)
abbrev pub most_suffix : ℕ
most_suffix = 253

-- PLAYS

-- how many acts a record has at most
abbrev pub most_acts : ℕ
most_acts = 40000

-- how many entries a log has at most, but for the losses of renderers
abbrev pub most_entries : ℕ
most_entries = 40000

-- how many entries one exchange may make
abbrev pub most_made : ℕ
most_made = 4
