-- A respaced text always has room, so that it or the line of a refusal is printed whole.
use mathlib.Core.Path.{◌≡◌, refl, sym, ap, ◌∙◌}
use mathlib.Core.List.{List, ◌++◌}
use Prim.Native.Nat.{ℕ, ◌+◌, ◌*◌, ◌<◌, ◌≤◌}
use native.Mathlib.Omega.{arith}
use borrow.Author.Tests.{lt-leb, le-leb}
use lib.ListN.{length, take, drop, replicate, length-replicate}
use Rattle.answers.specs.declared.Answer.{Answer}
use Rattle.prefix.specs.Reading.{Reading, accepted, refused}
use Rattle.reading.specs.Read.{long_text, most_bytes}
use Rattle.spacing.specs.Respaced.{respaced}
use Rattle.respacer.specs.Respace.{Respacing, written, denied, fitted, whole_reading, respacing_for, answer_of, output_after, Short}
use Rattle.respacer.proofs.Theorems.{respaced_length}
use Rattle.printing.specs.Printed.{refusal}
use Rattle.writing.specs.Machinery.Writing.{Adds}
use Rattle.writing.proofs.WritingLaws.{from_nothing, all_written}
use Rattle.listing.specs.Listing.{Front, Holds, Counts}
use Rattle.listing.proofs.ListingLaws.{front_same, counts}
use Rattle.respaced_listing.specs.RespacedListing.{printed_respaced, cleared}

whole_long : (text : List ℕ) → most_bytes < length text → whole_reading text ≡ refused long_text most_bytes
unfolding whole_reading
whole_long text h = rw (lt-leb (length text) most_bytes h)

respaced_long : (text : List ℕ) → most_bytes < length text → printed_respaced text (whole_reading text) ≡ refusal long_text most_bytes
unfolding printed_respaced
respaced_long text h = rw (whole_long text h) refl

module _ (buffer : List ℕ) (n : ℕ) (text : List ℕ) (l : length buffer ≡ most_bytes + 1) (e : Front buffer n text) where
  whole_front : whole_reading (take n buffer) ≡ whole_reading text
  whole_front = front_same whole_reading (refused long_text most_bytes) most_bytes whole_long buffer n text l e

  respaced_front : printed_respaced (take n buffer) (whole_reading (take n buffer)) ≡ printed_respaced text (whole_reading text)
  respaced_front = front_same (λ t. printed_respaced t (whole_reading t)) (refusal long_text most_bytes) most_bytes respaced_long buffer n text l e

-- what an output that always suffices is told
abbrev respacing_of : List ℕ → Reading → Respacing
respacing_of text (accepted trees) = written (respaced text trees)
respacing_of text (refused number place) = denied number place

respacing_whole : (text : List ℕ) (room : ℕ) → room ≡ 2 * most_bytes + 1 → respacing_for text room ≡ respacing_of text (whole_reading text)
respacing_whole text room h = go (whole_reading text) refl
  where
    go : (r : Reading) → whole_reading text ≡ r → fitted text room r ≡ respacing_of text r
    go (accepted trees) e =
        let s : Short text trees = respaced_length text trees e in
        rw (le-leb (length (respaced text trees)) room (omega arith))
    go (refused number place) e = refl

module _ (text output now : List ℕ) where
  accepted_of : (r : Reading) (n : ℕ) → Answer.Accepted n ≡ answer_of (respacing_of text r) → now ≡ output_after (respacing_of text r) output
      → Counts n now × Holds (printed_respaced text r) (cleared r output) now n
  unfolding printed_respaced
  accepted_of (accepted trees) n e t =
      let m : n ≡ length (respaced text trees) = cc in
      let k : now ≡ respaced text trees ++ drop n output = rw m t in
      (counts (respaced text trees) output now n m k, record { count_is = m; after_is = k })
  accepted_of (refused number place) n e t = absurd (let z : ◌≡◌ {A = ℕ} 0 1 = cc in omega arith)

  refused_of : (r : Reading) (number place : ℕ) (after : List ℕ) (at : ℕ) → Answer.Refused number place ≡ answer_of (respacing_of text r) → now ≡ output_after (respacing_of text r) output
      → Adds now 0 (refusal number place) after at → length (refusal number place) ≤ 40 → 40 ≤ length output
      → Counts at after × Holds (printed_respaced text r) (cleared r output) after at
  unfolding printed_respaced
  refused_of (accepted trees) number place after at e t p short room = absurd (let z : ◌≡◌ {A = ℕ} 0 1 = cc in omega arith)
  refused_of (refused n q) number place after at e t p short room =
      let same : refusal number place ≡ refusal n q = cc in
      let l : length now ≡ length output = ap length t ∙ length-replicate (length output) 0 in
      let w = all_written (refusal number place) now after at (from_nothing (refusal number place) now after at p) (omega arith) in
      let m : at ≡ length (refusal n q) = w.0 ∙ ap length same in
      let k : after ≡ refusal n q ++ drop at (replicate (length output) 0) = rw (same, t) at w.1 in
      (counts (refusal n q) (replicate (length output) 0) after at m k, record { count_is = m; after_is = k })

-- The same for every text of which the buffer holds the front.
module _ (buffer : List ℕ) (n : ℕ) (front : List ℕ) (is : front ≡ take n buffer) (output now : List ℕ) (answer : Answer) (b : length buffer ≡ most_bytes + 1) (room : length output ≡ 2 * most_bytes + 1) (e : answer ≡ answer_of (respacing_for front (length output))) (t : now ≡ output_after (respacing_for front (length output)) output) where
  whole : respacing_for front (length output) ≡ respacing_of front (whole_reading front)
  whole = respacing_whole front (length output) room

  of_text : {after : List ℕ} {at : ℕ} → Counts at after × Holds (printed_respaced front (whole_reading front)) (cleared (whole_reading front) output) after at
      → Counts at after × ((text : List ℕ) → Front buffer n text → Holds (printed_respaced text (whole_reading text)) (cleared (whole_reading text) output) after at)
  of_text {after} {at} w =
      (w.0, λ text o. rw (ap (λ t. printed_respaced t (whole_reading t)) is ∙ respaced_front buffer n text b o, ap whole_reading is ∙ whole_front buffer n text b o) at w.1)

  pub accepted_respaced : (count : ℕ) → answer ≡ Answer.Accepted count
      → Counts count now × ((text : List ℕ) → Front buffer n text → Holds (printed_respaced text (whole_reading text)) (cleared (whole_reading text) output) now count)
  accepted_respaced count m = of_text (accepted_of front output now (whole_reading front) count (sym m ∙ (e ∙ ap answer_of whole)) (t ∙ ap (λ (r : Respacing). output_after r output) whole))

  pub refused_respaced : (number place : ℕ) (after : List ℕ) (at : ℕ) → answer ≡ Answer.Refused number place
      → Adds now 0 (refusal number place) after at → length (refusal number place) ≤ 40
      → Counts at after × ((text : List ℕ) → Front buffer n text → Holds (printed_respaced text (whole_reading text)) (cleared (whole_reading text) output) after at)
  refused_respaced number place after at m p short =
      of_text (refused_of front output now (whole_reading front) number place after at (sym m ∙ (e ∙ ap answer_of whole)) (t ∙ ap (λ (r : Respacing). output_after r output) whole) p short (omega arith))
