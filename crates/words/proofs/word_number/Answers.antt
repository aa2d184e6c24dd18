-- `word_number` is `word_number`: a name that cannot be a word is none, and one that can has the number of the word that it is.
use mathlib.Core.Path.{ap, sym, ◌∙◌}
use mathlib.Core.Bool.{false≢true}
use Rattle.std.proofs.lemmas.Option.{same_Some, none-some}
use Rattle.text.proofs.Laws.{same→eq}
use Rattle.words.specs.Words.{word_number}
use Rattle.words.specs.Machinery.Run.{word}
use Rattle.words.proofs.Laws.{no_word, word_numbered, other_word}
use Rattle.words.proofs.word_number.Goals as goal

pub returns-then-not-may_be_word : goal.returns-then-not-may_be_word
returns-then-not-may_be_word c = let name = c.args.name.now in
    no_word name λ some. false≢true (sym (c.if-not-may_be_word.true) ∙ c.may_be_word.ensures.0 some)

pub returns-in-Some : goal.returns-in-Some
returns-in-Some c = let name = c.args.name.now in
    let number = c.in-Some.number in
    let is = same→eq name (word number) (rw (sym c.is_word.ensures ∙ c.if-is_word.true) tt) in
    let within = c.in-Some.ensures.some in
    sym (ap word_number is ∙ word_numbered number within.0 within.1)

pub returns-in_default : goal.returns-in_default
returns-in_default c = let own = c.in-Some.ensures.own in
    other_word c.args.name.now c.in-Some.number (λ some. same_Some _ _ (own some)) (sym c.is_word.ensures ∙ c.if-is_word.false)

pub returns-in_default-2 : goal.returns-in_default-2
returns-in_default-2 c = let own = c.in_default.ensures.own in
    no_word c.args.name.now λ some. none-some _ (own some)
