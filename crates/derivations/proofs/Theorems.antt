-- The theorems of derivations.
use mathlib.Core.Path.{◌≡◌, sym, ap, subst, ◌∙◌}
use mathlib.Core.Bool.{◌||◌}
use mathlib.Core.List.{List, [], ◌∷◌, ◌++◌, Memᴰ, map, append_assoc}
use Prim.Native.Nat.{ℕ}
use native.Mathlib.Nat.{zero-add}
use native.Mathlib.Omega.{arith}
use lib.Dec.{T}
use Rattle.vocabulary.specs.Vocabulary.{words, signs, token_class}
use Rattle.elements.specs.declared.Element.{Element}
use Rattle.rule.specs.Trees.{Trees, none}
use Rattle.rule.specs.Levels.{whole_text}
use Rattle.prefix.specs.Reading.{Limits, accepted, reading}
use Rattle.derivations.specs.Cuts.{CutsInto}
use Rattle.derivations.specs.Tokens.{Token, assign, var_word, else_word, do_word, while_word, for_word, continue_word, break_word, with_word, switch_word, case_word, default_word, throw_word, try_word, catch_word, finally_word, debugger_word, comma, colon, semicolon, dot, open_paren, close_paren, open_brace, close_brace, open_bracket, close_bracket, return_word, function_word, if_word, class_of, token_of, tokens}
use Rattle.machine.specs.Tokens.{in_word}
use Rattle.machine.specs.Operators.{each_class}
use Rattle.machine.specs.Syntax.{Syntax, variable_syntax, for_in_syntax}
use Rattle.grammar.specs.Grammar.{Program, is_among}
use Rattle.recorded.specs.Parts.{part, parts_of, MarkedByToken, InOrder}
use Rattle.recorded.specs.Recorded.{is_recorded, operand_kinds, Operands, Makes, unrecorded_classes, Unmarked, Joins, Assigns, Relates, Variable, ForIn}
use Rattle.derivations.specs.Derivations.{Derivation, count_trees, BeginsProgram}
use Rattle.derivations.specs.TreeElements.{elements_of}
use Rattle.machine.specs.Machinery.Machine.{frame}
use Rattle.machine.proofs.Ran.{anywhere}
use Rattle.grammar.proofs.Complete.{complete, one_tree}
use Rattle.derivations.proofs.Programs.{program_read, program_takes}
use Rattle.derivations.proofs.ReadCuts.{reading_cuts}
use Rattle.derivations.proofs.SameChoice.{same_choice}
use Rattle.recorded.proofs.Counts.{few_parts}
use Rattle.recorded.proofs.Unmarked.{variable_signed, for_in_signed}
use Rattle.recorded.proofs.Markers.{part_holds, part_marked_by, program_order, comma_joins, never_marks}
use Rattle.recorded.proofs.Recorded.{token_recorded, assign_recorded, in_recorded}
use Rattle.derivations.specs.Demand3.{answers_of, ReadAs, OneDerivation, FewParts, RuleTakes}
use Rattle.derivations.proofs.TokenLaws.{elements_counting, element_marks}
use Rattle.derivations.proofs.CountTrees.{count_tokens, program_distinct, token_at}
use Rattle.derivations.proofs.Answers.{choice_answers}
use Rattle.derivations.proofs.Begins.{same_split}

-- Demand 3: "the prefix rule takes each slash of a program as its derivation does". The reading of a program without limits is
-- accepted, and the elements of its trees, closers included, are the derivation's: a regular expression stands among them at
-- exactly the slashes that the derivation takes as one, and of the reserved words among them exactly those are names that it takes as names.
pub no_program_differs : (text : List ℕ) (d : Derivation text) → ReadAs text d.elements
no_program_differs text d =
    let r = program_read text d.cut (frame d.parts [] [] _, complete anywhere d.steps) in
    record { trees = r.0; reads = r.1; same = r.2 }

-- Of each slash, and of each reserved word: where the derivation meets it, the prefix rule over the trees before answers as the derivation's
-- choice does.
pub rule_takes_each : (text : List ℕ) (d : Derivation text) → RuleTakes text (whole_text none) 0 d.choice d.elements
rule_takes_each text d = program_takes text d.cut (frame d.parts [] [] _, complete anywhere d.steps)

-- Demand 3: "any two grammar derivations take every slash alike and have one syntax tree"; every reserved word too.
pub any_two_derivations : (text : List ℕ) (d f : Derivation text) → OneDerivation d f
any_two_derivations text d f =
    let r = no_program_differs text d in
    let s = no_program_differs text f in
    let trees : r.trees ≡ s.trees = cc in
    let elements : d.elements ≡ f.elements = sym r.same ∙ ap elements_of trees ∙ s.same in
    let parts : d.parts ≡ f.parts = one_tree (subst (λ (es : List Element). Program (tokens es) d.parts) elements d.steps) f.steps in
    record { same_elements = elements; same_answers = same_choice text d.cut f.cut elements; same_syntax = cc }

-- The slashes that a derivation takes as regular expressions are those whose elements have kind 5, and the reserved words that it takes
-- as names are those whose elements have kind 1.
pub answers_by_kind : (text : List ℕ) (d : Derivation text) → d.choice ≡ answers_of text d.elements
answers_by_kind text d = choice_answers text d.cut

-- A token is marked by the number of tree records before it, which is the index of its own if it has one.
pub token_marked : (before : List Element) (e : Element) (after : List Element)
    → (rest : List Token) × (tokens (before ++ (e ∷ after)) ≡ tokens before ++ (token_of (count_trees before) e ∷ rest))
token_marked before e after = rw (zero-add (count_trees before)) at (token_at 0 before e after)

-- What is read is the whole text: the elements of an accepted reading's trees are cut from the text's start to its end, by some choice.
pub reading_covers : (text : List ℕ) (limits : Limits) (trees : Trees) → reading text limits ≡ accepted trees → CutsInto text 0 (elements_of trees)
reading_covers = reading_cuts

-- Elements that begin a program with others behind them begin one: what begins none stays so.
pub begins_shorter : (text : List ℕ) (es fs : List Element) → BeginsProgram text (es ++ fs) → BeginsProgram text es
begins_shorter text es fs b =
    let s = same_split es fs b.same in
    record {
      other = b.other;
      derivation = b.derivation;
      firsts = s.front;
      more = s.back ++ b.more;
      starts = b.starts ∙ ap (λ (xs : List Element). xs ++ b.more) s.all ∙ append_assoc s.front s.back b.more;
      same = s.same;
    }

-- A syntax tree has few records, each with a mark of its own.
pub few_parts_each_marked : (text : List ℕ) (d : Derivation text) → FewParts d
few_parts_each_marked text d =
    let trees = count_tokens 0 d.elements in
    let marks = element_marks d.elements d.steps in
    record {
      few = omega (arith, few_parts d.steps);
      own = rw (sym trees) (program_distinct marks);
      marked_by = λ m member. omega (arith, marks.within_all m member);
    }

-- Document 01, Records: "Kinds with marks": each record but the program's is marked by a token that may mark its kind.
pub kinds_marked : (text : List ℕ) (d : Derivation text) (kind mark : ℕ) (inside : Syntax) → Memᴰ (part kind mark inside) (parts_of d.parts)
    → MarkedByToken (tokens d.elements) kind mark
kinds_marked text d kind mark inside = part_marked_by (elements_counting d.elements) d.steps

-- "parts before the whole and in text order": the parts of a record stand in the order of their marks.
pub in_text_order : (text : List ℕ) (d : Derivation text) → InOrder d.parts
in_text_order text d = program_order (elements_counting d.elements) d.steps

-- Each record of an operator, a member, a call or an index has its operands in it, before its mark and behind it, and that of a name, literal or value word nothing.
pub operands_held : (text : List ℕ) (d : Derivation text) (kind mark : ℕ) (inside : Syntax) → Memᴰ (part kind mark inside) (parts_of d.parts)
    → T (is_among operand_kinds kind) → Operands kind mark inside
operands_held text d kind mark inside = part_holds (elements_counting d.elements) d.steps

-- Document 02, U4: "each added operator and value word makes one syntax record". Each has a record that it marks, of a kind that tokens of its class mark, with
-- its operands in it, and no two records share a mark.
pub operators_recorded : (text : List ℕ) (d : Derivation text) (before : List Element) (e : Element) (after : List Element)
    → d.elements ≡ before ++ (e ∷ after) → T (is_recorded (class_of e)) → Makes (class_of e) (count_trees before) (parts_of d.parts)
operators_recorded text d before e after split h =
    let t = token_marked before e after in
    token_recorded (elements_counting d.elements) d.steps (tokens before) (class_of e)
    (record { newline = e.newline; mark = count_trees before; first = e.first }) t.0 (ap tokens split ∙ t.1) h

-- a `,` does so too, or makes none
pub commas_recorded : (text : List ℕ) (d : Derivation text) (before : List Element) (e : Element) (after : List Element)
    → d.elements ≡ before ++ (e ∷ after) → class_of e ≡ comma → Joins (count_trees before) (parts_of d.parts)
commas_recorded text d before e after split h =
    let t = token_marked before e after in
    comma_joins (elements_counting d.elements) d.steps (tokens before)
    (record { newline = e.newline; mark = count_trees before; first = e.first }) t.0 (rw h at (ap tokens split ∙ t.1))

-- `:` and `.` make none
pub none_recorded : (text : List ℕ) (d : Derivation text) (before : List Element) (e : Element) (after : List Element)
    → d.elements ≡ before ++ (e ∷ after) → T (is_among unrecorded_classes (class_of e)) → Unmarked (count_trees before) (parts_of d.parts)
none_recorded text d before e after split h =
    let t = token_marked before e after in
    never_marks (elements_counting d.elements) d.steps (class_of e) (tokens before)
    (record { newline = e.newline; mark = count_trees before; first = e.first }) t.0 (ap tokens split ∙ t.1) h

-- a `=` does so too, but where a variable's name stands before it: there it makes none
pub assignments_recorded : (text : List ℕ) (d : Derivation text) (before : List Element) (e : Element) (after : List Element)
    → d.elements ≡ before ++ (e ∷ after) → class_of e ≡ assign → Assigns (count_trees before) (parts_of d.parts)
assignments_recorded text d before e after split h =
    let t = token_marked before e after in
    assign_recorded (elements_counting d.elements) d.steps (tokens before)
    (record { newline = e.newline; mark = count_trees before; first = e.first }) t.0 (rw h at (ap tokens split ∙ t.1))

-- and so does `in`, but where it is that of a `for`, between its target or variable and its object: that makes none
pub relations_recorded : (text : List ℕ) (d : Derivation text) (before : List Element) (e : Element) (after : List Element)
    → d.elements ≡ before ++ (e ∷ after) → class_of e ≡ in_word → Relates (count_trees before) (parts_of d.parts)
relations_recorded text d before e after split h =
    let t = token_marked before e after in
    in_recorded (elements_counting d.elements) d.steps (tokens before)
    (record { newline = e.newline; mark = count_trees before; first = e.first }) t.0 (rw h at (ap tokens split ∙ t.1))

-- The other way round: each record of a variable that is not bare has its `=` among the tokens, and each of a `for` with an `in` that `in`; they make no record.
pub variables_signed : (text : List ℕ) (d : Derivation text) (called : ℕ) (inside : Syntax)
    → Memᴰ (part variable_syntax called inside) (parts_of d.parts) → Variable (tokens d.elements) (parts_of d.parts) called inside
variables_signed text d = variable_signed (elements_counting d.elements) d.steps

pub for_ins_signed : (text : List ℕ) (d : Derivation text) (word : ℕ) (inside : Syntax)
    → Memᴰ (part for_in_syntax word inside) (parts_of d.parts) → ForIn (tokens d.elements) (parts_of d.parts) word inside
for_ins_signed text d = for_in_signed (elements_counting d.elements) d.steps

-- Of the words and signs the classes of `is_recorded` are all but those that no program takes, those of statements and functions, delimiters, `;`, `.`, `:`, `,`, `=` and `in`.
abbrev other_classes : List ℕ
other_classes =
    0 ∷ assign ∷ in_word ∷ var_word ∷ else_word ∷ do_word ∷ while_word ∷ for_word ∷ continue_word ∷ break_word ∷ with_word ∷ switch_word ∷ case_word ∷ default_word ∷ throw_word ∷ try_word ∷ catch_word ∷ finally_word ∷ debugger_word ∷ return_word ∷ function_word ∷ if_word ∷ open_paren ∷ close_paren ∷ open_bracket ∷ close_bracket ∷ open_brace ∷ close_brace ∷ semicolon ∷ dot ∷ colon ∷ comma ∷ []

pub all_others_recorded : T (each_class (λ class. is_recorded class || is_among other_classes class) (map token_class (words ++ signs)))
all_others_recorded = tt
