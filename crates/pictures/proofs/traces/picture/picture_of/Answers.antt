use Rattle.std.proofs.Common.{ℕ, ap, ◌∙◌}
use Rattle.trace_text.specs.Setups.{Setup}
use Rattle.pictures.specs.declared.traces.frame.Frame.{Frame}
use Rattle.pictures.specs.Traces.Frames.{shown_frame}
use Rattle.pictures.specs.Traces.Picture.{image_text, picture_of}
use Rattle.pictures.proofs.traces.picture.picture_of.Goals as goal

pub returns : goal.returns
unfolding picture_of
returns c =
    let trace = c.args.trace.now in
    let shown = c.args.shown in
    let hands = c.hands-hands.ensures ∙ ap (λ (o : Setup). o.hands) c.opening.ensures.opening in
    rw c.new-text.ensures.items at c.in_ok-put_image.ensures.added
    ∙ ap (λ (f : Frame). image_text f c.hands-hands.result shown.refused c.entries.result.now) c.shown_frame-frame.ensures.frame
    ∙ ap (λ (h : ℕ). image_text (shown_frame trace shown) h shown.refused c.entries.result.now) hands
    ∙ ap (image_text (shown_frame trace shown) trace.opening.hands shown.refused) c.entries.ensures
