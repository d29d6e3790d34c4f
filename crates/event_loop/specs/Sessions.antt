-- What a contract sees of a session.
use Rattle.std.specs.Prelude.{◌≡◌, ℕ, ◌+◌, ◌<◌, ◌≤◌, ◌⊎◌, List, [], ◌∷◌, Option, None, Some, IfSome, length, slice_get, unwrap_or, if◌then◌else◌}
use Rattle.rdf_values.specs.{Booked, Function, history, IsTable, Pass, Statement, StatementsHaveWords, cut, Script}
use Rattle.rdf_model.specs.{Access, accesses, Dataset, first_fault, loop_passes, loop_results, loops_before, access_passes, access_printed, Course, in_front_of, IsCourse, Printed, transcript}
use Rattle.columns.specs.Views.{CutsView, ColumnsView}
use Rattle.entry_fns.specs.{functions_in}
use Rattle.graph_numbers.specs.{graph_of, GraphView, IsGraph}
use Rattle.loop_keys.specs.{JobView, passes_in}
use Rattle.loop_pieces.specs.{FilledResult, PartialLine, place_if_watched, ArePartialLines}
use Rattle.event_loop.specs.EventLoops.{job_facts, IsFilled, IsPlaced, loop_filling}
use Rattle.event_loop.specs.declared.one_loop.FilledLoop.{FilledLoop}
use Rattle.event_loop.specs.declared.session.FaultyLoop.{FaultyLoop}
use Rattle.event_loop.specs.declared.place.PassSpan.{PassSpan}
use Rattle.event_loop.specs.declared.session.Session.{Session}
use Rattle.event_loop.specs.declared.prints.Transcript.{Transcript}

-- the graph, the functions and the table, its cuts, the limits, the next Print, the completed loops, and the fault of the one after them
pub record SessionView : Type 0 where
  pub graph : GraphView
  pub dataset : Dataset
  pub cuts : CutsView
  pub slots : ℕ
  pub watch : ℕ
  pub next : ℕ
  pub loops : List FilledLoop
  pub fault : Option FaultyLoop

-- the functions, and the table of the columns
abbrev pub dataset_of : ColumnsView → List Function → Dataset
dataset_of columns fns = record { fns = fns; columns = columns.table.columns; rows = columns.table.rows }

-- the parts of a session
abbrev pub session_of : {V : Type 0} {D : V → Type 0} {g : _} → Session V D g → SessionView
session_of s = record {
  graph = s.graph;
  dataset = dataset_of s.columns (functions_in s.functions.now);
  cuts = s.columns.cuts;
  slots = s.slots;
  watch = s.watch;
  next = s.next;
  loops = s.loops.items;
  fault = s.fault;
}

-- a session that ran no loop
abbrev pub fresh_session : GraphView → ColumnsView → List Function → ℕ → ℕ → SessionView
fresh_session graph columns fns slots watch = record {
  graph = graph;
  dataset = dataset_of columns fns;
  cuts = columns.cuts;
  slots = slots;
  watch = watch;
  next = 0;
  loops = [];
  fault = None;
}

-- the loop of that number, over the session's table
abbrev pub session_job : SessionView → ℕ → JobView
session_job s l = record { script = s.graph.script; number = l; dataset = s.dataset; cuts = s.cuts }

-- the passes of the loop that a Print runs
abbrev pub passes_run : List Statement → Access → List Pass
passes_run script a = loop_passes script (unwrap_or a.fills [])

-- ---- what holds of a session

-- the fault is the first one of the loop after the completed ones
pub record IsKept (s : SessionView) (k : FaultyLoop) : Type 0 where
  pub number : k.loop_index ≡ length s.loops
  pub there : k.loop_index < length (loop_results (history s.graph.script))
  pub first : first_fault s.dataset (passes_in (session_job s k.loop_index)) ≡ Some k.fault

-- the parts fit, each completed loop is filled, and they are those of the Prints before the next one, up to a kept fault
pub record IsSession (s : SessionView) : Type 0 where
  pub graph : s.graph ≡ graph_of s.graph.script s.dataset
  pub booked : IsGraph s.graph
  pub table : IsTable (record { columns = s.dataset.columns; rows = s.dataset.rows })
  pub cuts : s.cuts.entries ≡ length s.dataset.rows
  pub words : StatementsHaveWords (history s.graph.script)
  pub slots : (0 < s.slots) × (s.slots ≤ 16)
  pub watch : 0 < s.watch
  pub filled : (l : ℕ) (f : FilledLoop) → slice_get s.loops l ≡ Some f → IsFilled (job_facts (session_job s l)) s.watch f
  pub few : length s.loops ≤ length (loop_results (history s.graph.script))
  pub turn : s.fault ≡ None → length s.loops ≡ loops_before (history s.graph.script) s.next
  pub kept : IfSome s.fault (IsKept s)

-- ---- results

-- the completed loop of that number fills the result of that name
abbrev pub IsFilledIn : SessionView → List ℕ → ℕ → Type 0
IsFilledIn s name l = (loop_filling (history s.graph.script) name ≡ Some l) × (l < length s.loops)

-- none does
abbrev pub IsUnfilled : SessionView → List ℕ → Type 0
IsUnfilled s name = (l : ℕ) → loop_filling (history s.graph.script) name ≡ Some l → length s.loops ≤ l

-- the partial results of a result that is noted, in that place of its loop; of another there are none
abbrev pub ArePartials : SessionView → Booked → FilledLoop → PassSpan → List PartialLine → Type 0
ArePartials s b f place lines =
    (((n : ℕ) → place_if_watched (history s.graph.script) n (record { result = b; under = None }) ≡ n ∷ []) × (slice_get f.partials place.watched ≡ Some lines))
    ⊎ ((place_if_watched (history s.graph.script) 0 (record { result = b; under = None }) ≡ []) × (lines ≡ []))

-- the result's passes stand in a place of that loop: the loop's piece, with the numbers of the result's accumulators, and its partial results
pub record IsResult (s : SessionView) (b : Booked) (l : ℕ) (f : FilledResult) (lines : List PartialLine) : Type 0 where
  pub filled : FilledLoop
  pub place : PassSpan
  pub its_loop : slice_get s.loops l ≡ Some filled
  pub placed : IsPlaced (history s.graph.script) (passes_in (session_job s l)) b place
  pub piece : f.piece.now ≡ filled.piece
  pub first : f.first ≡ place.first
  pub passes : f.passes ≡ place.passes
  pub partials : ArePartials s b filled place lines

-- ---- accesses

-- all but the next Print, the loops and the fault
pub record HasSameParts (old new : SessionView) : Type 0 where
  pub graph : new.graph ≡ old.graph
  pub dataset : new.dataset ≡ old.dataset
  pub cuts : new.cuts ≡ old.cuts
  pub slots : new.slots ≡ old.slots
  pub watch : new.watch ≡ old.watch

-- that loop fills the Print's result, a new one only where none did before
pub record IsAccessed (old new : SessionView) (print l : ℕ) : Type 0 where
  pub next : new.next ≡ old.next + 1
  pub fault : new.fault ≡ old.fault
  pub stays : (k : ℕ) (f : FilledLoop) → slice_get old.loops k ≡ Some f → slice_get new.loops k ≡ Some f
  pub filled : (a : Access) → slice_get (accesses (history old.graph.script)) print ≡ Some a → IsFilledIn new a.result l
  pub again : (a : Access) (k : ℕ) → slice_get (accesses (history old.graph.script)) print ≡ Some a → IsFilledIn old a.result k → new.loops ≡ old.loops
  pub sound : (a : Access) → slice_get (accesses (history old.graph.script)) print ≡ Some a → old.fault ≡ None → first_fault old.dataset (passes_run (history old.graph.script) a) ≡ None

-- the Print's result isn't filled, and the fault is the kept one, or that of the loop which was to fill it
pub record IsFaulted (old new : SessionView) (print : ℕ) (k : FaultyLoop) : Type 0 where
  pub next : new.next ≡ old.next + 1
  pub loops : new.loops ≡ old.loops
  pub fault : new.fault ≡ Some k
  pub kept : (j : FaultyLoop) → old.fault ≡ Some j → old.fault ≡ new.fault
  pub unfilled : (a : Access) → slice_get (accesses (history old.graph.script)) print ≡ Some a → IsUnfilled old a.result
  pub ran : (a : Access) → slice_get (accesses (history old.graph.script)) print ≡ Some a → old.fault ≡ None → slice_get (loop_results (history old.graph.script)) k.loop_index ≡ a.fills

-- memory is wanted only for a new loop, and nothing changes
pub record IsRefused (old new : SessionView) (print : ℕ) : Type 0 where
  pub same : new ≡ old
  pub sound : old.fault ≡ None
  pub unfilled : (a : Access) → slice_get (accesses (history old.graph.script)) print ≡ Some a → IsUnfilled old a.result

-- ---- what one Print adds to a text, and when a text is what a script prints

-- the clusters are the session's, and the partial results of its loops are over the sets of the course
pub record FitsCourse (s : SessionView) (course : Course) : Type 0 where
  pub spans : course.spans ≡ cut s.cuts.entries s.cuts.size s.cuts.marks
  pub lines : (l w place : ℕ) (f : FilledLoop) (ls : List PartialLine) → slice_get s.loops l ≡ Some f → slice_get (job_facts (session_job s l)).watched w ≡ Some place → slice_get f.partials w ≡ Some ls
      → ArePartialLines (job_facts (session_job s l)).facts place (course.chains l) ls

-- what the Print gives before what else is printed, in a course
abbrev pub print_gives : SessionView → Course → Access → Printed → Printed
print_gives s course a rest = access_printed (history s.graph.script) s.dataset course a (first_fault s.dataset (access_passes (history s.graph.script) s.dataset course a)) rest

-- the next Print is made without a fault, and its lines are added
pub record GoesOn (old new : SessionView) (before after : List ℕ) (print : ℕ) : Type 0 where
  pub next : new.next ≡ old.next + 1
  pub sound : new.fault ≡ None
  pub stays : (l : ℕ) (f : FilledLoop) → slice_get old.loops l ≡ Some f → slice_get new.loops l ≡ Some f
  pub lines : (course : Course) (a : Access) (rest : Printed) → FitsCourse new course → slice_get (accesses (history old.graph.script)) print ≡ Some a
      → in_front_of before (print_gives old course a rest) ≡ in_front_of after rest

-- its loop faults, and the line of the fault is added
pub record EndsAt (old : SessionView) (before after : List ℕ) (print : ℕ) : Type 0 where
  pub lines : (course : Course) (a : Access) (rest : Printed) → slice_get (accesses (history old.graph.script)) print ≡ Some a
      → in_front_of before (print_gives old course a rest) ≡ record { bytes = after; status = 8 }

-- it is the transcript of separate passes in some course of the loops: the sets of clusters over which watched results were noted
-- are such chains, and they are those that its lines show
pub record IsTranscript (script : Script) (d : Dataset) (cuts : CutsView) (watch : ℕ) (t : Transcript) : Type 0 where
  pub course : Course
  pub is_course : IsCourse (history script) (length d.rows) cuts.size cuts.marks watch course
  pub bytes : t.text ≡ (transcript script d course).bytes
  pub status : (if t.faulted then 8 else 0) ≡ (transcript script d course).status
