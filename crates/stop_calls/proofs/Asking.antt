-- What a request that was made tells.
use Rattle.std.proofs.Common.{◌≡◌, true, not, refl, ap, ◌∙◌, subst}
use Rattle.std.specs.Prelude.{Bool, Option}
use Rattle.std.proofs.lemmas.Bool.{both_ways}
use Rattle.life_rules.specs.declared.words.Bits.{Bits}
use Rattle.life_rules.specs.declared.event.SourceRef.{SourceRef}
use Rattle.table_words.specs.Layouts.{index}
use Rattle.atomic_table.specs.declared.shared.Seat.{Seat}
use Rattle.table_rules.specs.declared.view.View.{View}
use Rattle.table_steps.specs.Views.{Board}
use Rattle.table_steps.specs.Claims.{with_step}
use Rattle.table_steps.specs.Sights.{spot_of}
use Rattle.table_steps.specs.Requests.{bits_asked, asks, IsAsked}
use Rattle.stop_calls.specs.declared.requesting.Request.{Request}
use Rattle.stop_calls.specs.declared.requesting.Request.TheVariants.{Made, Already}
use Rattle.stop_calls.specs.Requests.{is_answer, IsAskedFor}

-- a request that was found there was made already
abbrev made-already : (source : SourceRef) (before : Bool) (answer : Request) → is_answer source before answer → before ≡ true →
    answer ≡ Already
made-already source before (Made scan) is requested = absurd (both_ways before is.0 requested)
made-already source before Already is requested = refl

-- by the answer that follows from the bits that were read
abbrev pub asked-for : {P E O : Type 0} (board : Board O) (source : SourceRef) (failure : Bool) (bits : Bits) (answer : Request) (old new : Seat (Option P) (View P E)) →
    IsAsked board source failure bits old new → is_answer source bits.requested answer → IsAskedFor board source failure answer old new
asked-for board source failure bits answer old new asked is =
    record {
      word = asked.word;
      is_of = asked.is_of;
      answer_is = subst (λ (b : Bits). is_answer source b.requested answer) asked.answer_is is;
      left = asked.left;
      stamp_is = asked.stamp_is;
      left_is = asked.left_is ∙ ap (bits_asked failure) asked.answer_is;
      again = λ has. made-already source bits.requested answer is (asked.stands has.0 has.1);
      me_is = asked.me_is
          ∙ ap (λ (b : Bits). (
            with_step (index board.frame.layout (spot_of source)) asked.word asked.left (asks source (not b.requested) old.me.0),
            old.me.1,
          )) asked.answer_is;
    }
