pub mod EventLoops
pub mod Gathered
pub mod Sessions
pub mod Workers
-- what other crates name of these
pub use EventLoops.{AreNotedPartials, HasEnded, IsFilled, job_facts, job_with, JobFacts, fills, IsPassOf, IsPlaced, loop_filling}
pub use Gathered.{AreBlank, AreFacts, AreMade, AreShares, CanFill, end_faults, fault_of, HasMemory, HasStopped, HaveFinished, HaveNoted, IsBlank, IsOpened, IsOutcome, IsServed, piece_of, pieces_in, seat_in, shares_in}
pub use Sessions.{ArePartials, dataset_of, fresh_session, HasSameParts, IsAccessed, IsFaulted, IsFilledIn, IsKept, IsRefused, IsResult, IsSession, IsUnfilled, passes_run, session_job, session_of, SessionView, EndsAt, FitsCourse, GoesOn, IsTranscript, print_gives}
pub use Workers.{IsFreshSlot, IsOfPasses, IsSlotOf, places_before, SlotView, AreSound, CanRun, HasNoted, HasRoom, HasRun, IsFresh, IsOver, MetFault, Stopped}
pub use declared.one_loop.FilledLoop.{FilledLoop}
pub use declared.one_loop.LoopEnd.{LoopEnd}
pub use declared.state.SlotPhase.{SlotPhase}
