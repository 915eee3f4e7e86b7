-- What is told of a fact, as a sentence.
use Rattle.std.specs.Prelude.{ℕ, ◌==◌, Bool, true, false, not, ◌&&◌, if◌then◌else◌, List, [], ◌++◌, codes, decimal, Option, Some, None}
use Rattle.life_rules.specs.declared.event.Event.{Event}
use Rattle.life_rules.specs.declared.event.Event.TheVariants.{Claim, Begin, Await, Rest, Take, Finish, Report, Release, Arm, Look, Request, Run, EndRun, Withdraw, WithdrawOwn, SealScan, Skip, Rouse, Enter, MarkUsed, Leave, Close, Join, Seal}
use Rattle.life_rules.specs.declared.event.Place.{Place}
use Rattle.life_rules.specs.declared.event.SourceAt.{SourceAt}
use Rattle.life_rules.specs.declared.event.SourceAt.TheVariants.{Scope, At}
use Rattle.life_rules.specs.declared.scope.ScopeWord.{ScopeWord}
use Rattle.life_rules.specs.declared.words.BlockState.{BlockState}
use Rattle.life_rules.specs.declared.words.BlockState.TheVariants.{Free, Open, Retired}
use Rattle.step_reasons.specs.declared.callback.Callback.{Callback}
use Rattle.step_reasons.specs.declared.callback.Callback.TheVariants.{Never, Armed, Runs, Ran, Removed}
use Rattle.step_reasons.specs.declared.fact.Fact.{Fact}
use Rattle.step_reasons.specs.declared.fact.Fact.TheVariants.{NoHand, NoBlock, NoPlace, NoSource, BlockIs, Stands, CallbackIs, HearsFrom, Scans, ScansNot, GoesOnWith, NamesNone, NamesTwice, NotChild, NothingToLookAfter, NothingToRequest, RunsNot, InTheMaking, BeingRefused, NoneInTheMaking, NoneToLeave, ScopeIs}
use Rattle.step_reasons.specs.declared.standing.Standing.{Standing}
use Rattle.step_reasons.specs.declared.standing.Standing.TheVariants.{InFreeBlock, InRetiredBlock, NotAwaited, StartOwed, Held, Waits, InLoop, InPool, Parked, ReportOwed, Reported, HeldFinished}
use Rattle.trace_text.specs.Texts.{place_text, scope_text}

-- a number between two texts
abbrev pub between : List ℕ → ℕ → List ℕ → List ℕ
between before number after = before ++ (decimal number ++ after)

-- the place that `it` means in a sentence on an event: its own, or that of its source
abbrev pub place_of_source : SourceAt → Option Place
place_of_source Scope = None
place_of_source (At p) = Some p

abbrev pub own_place : Event → Option Place
own_place (Claim block) = None
own_place (Begin place) = Some place
own_place (Await place children) = Some place
own_place (Rest place to) = Some place
own_place (Take place) = Some place
own_place (Finish place) = Some place
own_place (Report place) = Some place
own_place (Release block) = None
own_place (Arm place) = Some place
own_place (Look source None) = place_of_source source
own_place (Look source (Some place)) = Some place
own_place (Request source failure) = place_of_source source
own_place (Run source place) = Some place
own_place (EndRun place) = Some place
own_place (Withdraw place) = Some place
own_place (WithdrawOwn place) = Some place
own_place (SealScan source) = place_of_source source
own_place (Skip block) = None
own_place (Rouse place) = Some place
own_place Enter = None
own_place MarkUsed = None
own_place Leave = None
own_place Close = None
own_place Join = None
own_place (Seal expected) = None

-- the place in a sentence
abbrev pub subject_text : Option Place → Place → List ℕ
subject_text None p = place_text p
subject_text (Some q) p =
    if q.block == p.block && q.node == p.node then codes "it" else place_text p

-- a source in a sentence
abbrev pub source_name : SourceAt → List ℕ
source_name Scope = codes "the scope's source"
source_name (At p) = codes "the source of " ++ place_text p

-- how far a node has come, behind its name
abbrev pub children_word : ℕ → List ℕ
children_word n = if n == 1 then codes " child" else codes " children"

abbrev pub standing_text : Standing → List ℕ
standing_text InFreeBlock = codes " lies in a free block"
standing_text InRetiredBlock = codes " lies in a retired block"
standing_text NotAwaited = codes " hasn't begun, and isn't awaited"
standing_text (StartOwed h) = between (codes " hasn't begun, and hand ") h (codes " owes its start")
standing_text (Held h) = between (codes " is held by hand ") h []
standing_text (Waits n) = between (codes " waits for ") n (children_word n)
standing_text InLoop = codes " rests in the loop, for hand 0 to take"
standing_text InPool = codes " rests in the pool"
standing_text Parked = codes " is parked, for hand 0 to take"
standing_text (ReportOwed h) = between (codes " is done, and hand ") h (codes " owes its report")
standing_text Reported = codes " is done, and its report was made"
standing_text (HeldFinished h) =
    between (codes " is done, and hand ") h (codes " holds it as the finished root")

abbrev pub callback_text : Callback → List ℕ
callback_text Never = codes "no callback of it is registered"
callback_text Armed = codes "its callback is armed"
callback_text (Runs h) = between (codes "its callback runs on hand ") h []
callback_text Ran = codes "its callback has run"
callback_text Removed = codes "its callback is removed"

abbrev pub block_text : BlockState → List ℕ
block_text Free = codes "the block is free"
block_text Open = codes "the block is open"
block_text Retired = codes "the block is retired"

-- where a node hears requests from, behind its name
abbrev pub nearest_text : Option SourceAt → List ℕ
nearest_text None = codes " hears no stop source"
nearest_text (Some source) = codes " hears " ++ source_name source

abbrev pub next_text : ℕ → Option Place → List ℕ
next_text h None = between (codes "the scan of hand ") h (codes " has passed all places")
next_text h (Some p) =
    between (codes "the scan of hand ") h (codes " goes on with ") ++ place_text p

-- why a hand may not request a stop
abbrev pub request_text : ℕ → SourceAt → Bool → List ℕ
request_text h Scope true = codes "no failure requests a stop of the scope"
request_text h Scope false =
    if h == 0
    then codes "a simple scope has no stop source"
    else between (codes "hand ") h (codes " has seen no request there, and hand 0 makes the first")
request_text h (At p) true = between (codes "hand ") h (codes " owes no report of a child of it")
request_text h (At p) false = between (codes "hand ") h (codes " has no request to pass on to it")

-- what keeps the scope's word from being sealed, behind the word
abbrev pub scope_reading : ScopeWord → List ℕ
scope_reading w =
    if not w.joining then codes ", not joining" else (
    if w.joined then codes ", joined" else (
    if w.count == 0 then [] else codes ", with associations"))

abbrev pub source_subject : Option Place → SourceAt → List ℕ
source_subject own Scope = codes "the scope"
source_subject own (At p) = subject_text own p

abbrev pub fact_text : Option Place → Fact → List ℕ
fact_text own (NoHand h) = between (codes "there is no hand ") h []
fact_text own (NoBlock b) = between (codes "there is no block ") b []
fact_text own (NoPlace p) = codes "there is no " ++ place_text p
fact_text own (NoSource at) = source_subject own at ++ codes " has no stop source"
fact_text own (BlockIs b state) = block_text state
fact_text own (Stands p standing) = subject_text own p ++ standing_text standing
fact_text own (CallbackIs p callback) = callback_text callback
fact_text own (HearsFrom p nearest) = subject_text own p ++ nearest_text nearest
fact_text own (Scans h at) = between (codes "hand ") h (codes " scans ") ++ source_name at
fact_text own (ScansNot h at) = between (codes "hand ") h (codes " doesn't scan ") ++ source_name at
fact_text own (GoesOnWith h at next) = next_text h next
fact_text own NamesNone = codes "no child is named"
fact_text own NamesTwice = codes "a child is named twice"
fact_text own (NotChild p n) = between (codes "node ") n (codes " isn't a child of it")
fact_text own (NothingToLookAfter h at p) =
    between (codes "hand ") h (codes " has no arming of it to look after")
fact_text own (NothingToRequest h at failure) = request_text h at failure
fact_text own (RunsNot h p) = between (codes "hand ") h (codes " doesn't run its callback")
fact_text own (InTheMaking h) =
    between (codes "hand ") h (codes " has an association in the making")
fact_text own (BeingRefused h) =
    between (codes "hand ") h (codes " has an association that is being refused")
fact_text own (NoneInTheMaking h) =
    between (codes "hand ") h (codes " has no association in the making")
fact_text own (NoneToLeave h) = between (codes "hand ") h (codes " has no association to leave")
fact_text own (ScopeIs w) = codes "the scope's word is " ++ (scope_text w ++ scope_reading w)
