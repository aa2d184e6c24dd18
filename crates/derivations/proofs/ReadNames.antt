-- A reserved word that is a name has a record like any other name. Along an accepted reading the token machine takes both alike.
use Rattle.std.specs.Prelude.{Ok, Some}
use mathlib.Core.Path.{◌≡◌, refl, sym, ap, subst, ◌∙◌}
use mathlib.Core.List.{List, [], ◌∷◌, ◌++◌, map, append_assoc, append-nil}
use mathlib.Core.Bool.{Bool, true, false, cond}
use Prim.Native.Nat.{ℕ, ◌+◌}
use native.Mathlib.Omega.{arith}
use borrow.Author.Tests.{eqb-true}
use lib.Dec.{T, eqb}
use Rattle.elements.specs.Elements.{element_at, word_met, name_kind, word_kind}
use Rattle.elements.specs.declared.Element.{Element}
use Rattle.elements.specs.declared.Stated.{Stated}
use Rattle.elements.proofs.FoundKinds.{found_kind}
use Rattle.elements.proofs.Delimiters.{delimiter_byte, delimiter_which}
use Rattle.elements.proofs.StatedAnswers.{Reserved, found_reserved}
use Rattle.rule.specs.Trees.{Trees}
use Rattle.rule.specs.Levels.{Levels, stated_by, word_is_name, kind_of}
use Rattle.prefix.specs.Reading.{Limits, Step, more, step, accepted, reading}
use Rattle.prefix.proofs.Course.{Course, ended, went, accepted_course}
use Rattle.derivations.specs.Cuts.{is_closer, recorded}
use Rattle.derivations.specs.Tokens.{Token, token, Spot, name, word_name, class_of, token_of, tokens_from, tokens}
use Rattle.derivations.specs.TreeElements.{elements_of}
use Rattle.grammar.specs.Grammar.{call_arguments, array_elements, object_properties}
use Rattle.machine.specs.Machinery.Machine.{
  Frame,
  by_statement,
  by_return,
  by_paren,
  by_bracket,
  by_colon,
  by_item,
  declared,
  operand_in,
  among,
  in_clause,
  in_nest,
  in_statement,
  in_head,
  Control,
  statement_due,
  statement_done,
  name_first,
  return_first,
  variable_due,
  if_first,
  operand_due,
  member_due,
  operand_done,
  postfix_done,
  dot_last,
  function_first,
  function_named,
  parameter_past,
  item_due,
  property_named,
  parameter_due,
  parameter_named,
  finished,
  Open,
  State,
  dead,
  live,
  consume,
  run,
  start,
}
use Rattle.derivations.proofs.LevelSummary.{summary_of, name_summary}
use Rattle.agreement.proofs.Related.{may_name, word_named}
use Rattle.derivations.proofs.InStep.{InStep, stopped, in_step, start_in_step}
use Rattle.derivations.proofs.Kept.{Outcome, went_on, too_deep, too_many, kept}
use Rattle.derivations.proofs.SoFar.{elements_so_far, step_elements}
use Rattle.derivations.proofs.TokenLaws.{word_name_class}
use Rattle.grammar.proofs.Complete.{run_append}

-- the class that a record shows, and tokens as records show them
abbrev pub record_class : ℕ → ℕ
record_class class = cond (eqb class word_name) name class

abbrev pub record_token : Token → Token
record_token (token class spot) = token (record_class class) spot

-- behind a dot and where a property is due the machine takes both alike; elsewhere a reserved word is no name
names_alike : (control : Control) (spot : Spot) (f : Frame) (around : List Open) → T (may_name control)
    → consume (live control f around) (token name spot) ≡ consume (live control f around) (token word_name spot)
names_alike (statement_due true setting) spot f around t = absurd t
names_alike (statement_due false (among scope)) spot f around t = absurd t
names_alike (statement_due false in_clause) spot f around t = absurd t
names_alike (statement_due false (in_nest nest)) spot f around t = absurd t
names_alike (statement_done nest) spot f around t = absurd t
names_alike (name_first setting) spot f around t = absurd t
names_alike (return_first setting) spot f around t = absurd t
names_alike (variable_due (in_statement setting)) spot f around t = absurd t
names_alike (variable_due (in_head first)) spot f around t = absurd t
names_alike if_first spot f around t = absurd t
names_alike (operand_due (by_statement setting) _) spot f around t = absurd t
names_alike (operand_due (by_return setting) _) spot f around t = absurd t
names_alike (operand_due by_paren _) spot f around t = absurd t
names_alike (operand_due by_bracket _) spot f around t = absurd t
names_alike (operand_due (by_item call_arguments) _) spot f around t = absurd t
names_alike (operand_due (by_item array_elements) _) spot f around t = absurd t
names_alike (operand_due (by_item object_properties) _) spot f around t = absurd t
names_alike (operand_due by_colon _) spot f around t = absurd t
names_alike (member_due ending _) spot f around t = absurd t
names_alike (operand_done ending _) spot f around t = absurd t
names_alike (postfix_done ending) spot f around t = absurd t
names_alike (dot_last ending _) spot f around t = refl
names_alike (function_first declared) spot f around t = absurd t
names_alike (function_first (operand_in ending _)) spot f around t = absurd t
names_alike (function_named declared) spot f around t = absurd t
names_alike (function_named (operand_in ending _)) spot f around t = absurd t
names_alike (parameter_past declared) spot f around t = absurd t
names_alike (parameter_past (operand_in ending _)) spot f around t = absurd t
names_alike (item_due call_arguments) spot f around t = absurd t
names_alike (item_due array_elements) spot f around t = absurd t
names_alike (item_due object_properties) spot f around t = refl
names_alike property_named spot f around t = absurd t
names_alike (parameter_due true) spot f around t = absurd t
names_alike (parameter_due false) spot f around t = absurd t
names_alike parameter_named spot f around t = absurd t
names_alike finished spot f around t = absurd t
names_alike control spot f around t = elim t [ ]

-- an element that is such a word was found where the rule says so
named_by_rule : (given : Stated) (met : Bool) (e : Element) → Reserved met given.name e → class_of e ≡ word_name → given.name ≡ true
named_by_rule given met e r c = let k = word_name_class e c in go met given.name r.reserved r.other k.0 k.1
  where
    go : (met name : Bool) → (met ≡ true → (e.kind ≡ cond name name_kind word_kind) × (e.which ≡ 0 → ⊥))
        → (met ≡ false → (e.kind ≡ word_kind → ⊥) × (e.kind ≡ name_kind → e.which ≡ 0)) → e.kind ≡ name_kind → (e.which ≡ 0 → ⊥) → name ≡ true
    go met true reserved other k w = refl
    go true false reserved other k w = absurd (omega (arith, (reserved refl).0))
    go false false reserved other k w = absurd (w ((other refl).1 k))

module _ (bytes : List ℕ) (limits : Limits) where
  -- one element: the machine goes the same way, and stays in step
  module _ (levels after : Levels) (place : ℕ) (e : Element) (found : element_at bytes place (stated_by levels) ≡ Ok (Some e))
      (steps : step limits levels e ≡ more after) (n : ℕ) where
    same_step : {state : State} → InStep state levels → consume state (record_token (token_of n (recorded e))) ≡ consume state (token_of n (recorded e))
    unfolding class_of
    same_step stopped = refl
    same_step (in_step {control = control} {f = f} {around = around} r q u s) = go (eqb (class_of e) word_name) refl
      where
        spot : Spot
        spot = record { newline = (recorded e).newline; mark = n; first = e.first }

        go : (b : Bool) → eqb (class_of e) word_name ≡ b
            → consume (live control f around) (token (cond b name (class_of e)) spot) ≡ consume (live control f around) (token (class_of e) spot)
        go true q =
            let class : class_of e ≡ word_name = eqb-true (class_of e) word_name q in
            let rule : word_is_name levels ≡ true = named_by_rule (stated_by levels) (word_met bytes place) e (found_reserved bytes place (stated_by levels) e found) class in
            names_alike control spot f around (word_named control (kind_of levels) (summary_of levels) r (name_summary levels ∙ rule))
            ∙ ap (λ (x : ℕ). consume (live control f around) (token x spot)) (sym class)
        go false q = refl

    stays : {state : State} → InStep state levels → InStep (consume state (token_of n (recorded e))) after
    stays {state} i = go (consume state (token_of n (recorded e))) refl
      where
        follows : {is_open : Bool} {state : State} {s : Step} → Outcome limits levels e is_open state s → s ≡ more after → InStep state after
        follows {state = state} (went_on {next = next} j c b) q = let same : next ≡ after = cc in subst (InStep state) same j
        follows (too_deep o h) q = absurd (let z : ◌≡◌ {A = ℕ} 0 1 = cc in omega arith)
        follows (too_many o h) q = absurd (let z : ◌≡◌ {A = ℕ} 0 1 = cc in omega arith)

        go : (next : State) → consume state (token_of n (recorded e)) ≡ next → InStep next after
        go (dead at) q = stopped
        go (live control f around) q = subst (λ (s : State). InStep s after) q (follows (kept limits levels e n i (rw q tt)).outcome steps)

  -- what follows levels in an accepted reading
  record Along (levels : Levels) (trees : Trees) (state : State) (n : ℕ) : Type 0 where
    es : List Element
    same : elements_of trees ≡ elements_so_far levels ++ es
    runs : run state (map record_token (tokens_from n es)) ≡ run state (tokens_from n es)

  along : {trees : Trees} {levels : Levels} {place : ℕ} → Course bytes limits trees levels place → (state : State) (n : ℕ) → InStep state levels
      → Along levels trees state n
  unfolding tokens_from
  along {trees} ended state n i = record { es = []; same = sym (append-nil (elements_of trees)); runs = refl }
  along {levels = levels} {place = place} (went e after found steps rest) state n i =
      let next = consume state (token_of n (recorded e)) in
      let m = cond (is_closer (recorded e)) n (n + 1) in
      let r = along rest next m (stays levels after place e found steps n i) in
      record {
        es = recorded e ∷ r.es;
        same = r.same
            ∙ rw (step_elements limits levels e (found_kind bytes place (stated_by levels) e found) (delimiter_byte bytes place (stated_by levels) e found) (delimiter_which bytes place (stated_by levels) e found) after steps)
            (append_assoc (elements_so_far levels) (recorded e ∷ []) r.es);
        runs = ap (λ (s : State). run s (map record_token (tokens_from m r.es))) (same_step levels after place e found steps n i) ∙ r.runs;
      }

  -- the run over the tokens of an accepted reading, as records show them, is that over its tokens
  pub recorded_run : (trees : Trees) → reading bytes limits ≡ accepted trees → (behind : List Token)
      → run start (map record_token (tokens (elements_of trees)) ++ behind) ≡ run start (tokens (elements_of trees) ++ behind)
  unfolding elements_of
  recorded_run trees a behind =
      let r = along (accepted_course bytes limits trees a) start 0 start_in_step in
      run_append (map record_token (tokens (elements_of trees))) behind start
      ∙ ap (λ (s : State). run s behind)
      (subst (λ (es : List Element). run start (map record_token (tokens es)) ≡ run start (tokens es)) (sym r.same) r.runs)
      ∙ sym (run_append (tokens (elements_of trees)) behind start)
