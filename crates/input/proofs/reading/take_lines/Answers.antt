-- `take_lines`: its loop keeps what holds at each turn, and its clause holds where it returns.
use Rattle.std.proofs.Common.{◌≡◌, ◌++◌, Ok, Err, sym, subst, rules}
use Rattle.std.proofs.KnownBytes.{Consumes-trans}
use Rattle.std.specs.Io.BufRead.{FillKeeps}
use Rattle.std.specs.Io.KnownBytes.{Consumes}
use Rattle.input.specs.Reading.{LinesTaken}
use Rattle.input.proofs.Taking.{chunk_consumed, left_more, at_end, at_line, at_flush, at_done, chunk_flushed}
use Rattle.input.proofs.reading.take_lines.Goals as goal

pub returns-then-len-eq0 : goal.returns-then-len-eq0
returns-then-len-eq0 g c =
    let held = c.chunks.invariant in
    let here = g.R.Read.remaining c.chunks.input in
    at_end g.S.LineSink.takes g.S.LineSink.done g.met.S.LineSink.takes_both c.args.sink.now c.chunks.sink c.end.new.sink (g.R.Read.remaining c.args.input.now) here
    (g.R.Read.remaining c.fill_buf.follows.lender-at-none) held.0 c.in_ok-chunk.chunk.now c.chunks.cutter held.2 held.3 held.1 c.end.result c.fill_buf.follows.holds-at-none.0
    c.in_ok-chunk.ensures.end c.if-len-eq0.true c.end.ensures

pub returns-in_err-each_line : goal.returns-in_err-each_line
returns-in_err-each_line g c =
    let held = c.chunks.invariant in
    let here = g.R.Read.remaining c.chunks.input in
    let left = g.R.Read.remaining c.fill_buf.follows.lender-at-none in
    let known = g.R.Read.remaining c.args.input.now in
    let error = c.in_err-each_line.field-0.0 in
    let failed : c.from_residual-in_err-each_line.result ≡ Err error = search rules in
    subst (λ r. LinesTaken g.S.LineSink.takes g.S.LineSink.done c.args.sink.now known r c.each_line.new.sink left) (sym failed)
    (at_line g.S.LineSink.takes g.S.LineSink.done g.met.S.LineSink.takes_both c.args.sink.now c.chunks.sink c.each_line.new.sink known here left held.0 c.in_ok-chunk.chunk.now c.chunks.cutter held.2 held.3 held.1
    error c.each_line.new.self c.fill_buf.follows.holds-at-none.0 c.in_ok-chunk.ensures.front c.in_err-each_line.ensures.handed)

pub returns-in_err-flush : goal.returns-in_err-flush
returns-in_err-flush g c =
    let held = c.chunks.invariant in
    let here = g.R.Read.remaining c.chunks.input in
    let left = g.R.Read.remaining c.fill_buf.follows.lender-at-none in
    let known = g.R.Read.remaining c.args.input.now in
    let error = c.in_err-flush.field-0.0 in
    let failed : c.from_residual-in_err-flush.result ≡ Err error = search rules in
    subst (λ r. LinesTaken g.S.LineSink.takes g.S.LineSink.done c.args.sink.now known r c.flush.new.self left) (sym failed)
    (at_flush g.S.LineSink.takes g.S.LineSink.done g.met.S.LineSink.takes_both c.args.sink.now c.chunks.sink c.flush.new.self known here left held.0 c.in_ok-chunk.chunk.now c.chunks.cutter held.2 held.3 held.1
    c.each_line.new.sink c.each_line.new.self c.in_ok-each_line.ensures.handed error c.fill_buf.follows.holds-at-none.0 c.in_ok-chunk.ensures.front c.in_err-flush.ensures)

pub returns-then-is_done : goal.returns-then-is_done
returns-then-is_done g c =
    let held = c.chunks.invariant in
    let here = g.R.Read.remaining c.chunks.input in
    let chunk = c.in_ok-chunk.chunk.now in
    let rested = c.fill_buf.follows.lender-at-none in
    let left = g.R.Read.remaining c.consume.new.self in
    let keeps = subst (FillKeeps here (g.R.Read.remaining rested) (g.R.BufRead.consumable_len rested)) c.in_ok-chunk.was c.fill_buf.follows.holds-at-none in
    let taken : Consumes here left chunk = chunk_consumed here (g.R.Read.remaining rested) left (g.R.BufRead.consumable_len rested) chunk c.in_ok-chunk.ensures.front keeps.0 keeps.1 c.consume.ensures.bytes in
    at_done g.S.LineSink.takes g.S.LineSink.done g.met.S.LineSink.takes_both c.args.sink.now c.chunks.sink c.flush.new.self (g.R.Read.remaining c.args.input.now) here left held.0 chunk c.chunks.cutter held.2 held.3 held.1
    c.each_line.new.sink c.each_line.new.self c.in_ok-each_line.ensures.handed taken c.in_ok-flush.ensures (search rules)

pub chunks-preserved : goal.chunks-preserved
chunks-preserved g c =
    let held = c.chunks.invariant in
    let here = g.R.Read.remaining c.chunks.input in
    let known = g.R.Read.remaining c.args.input.now in
    let chunk = c.in_ok-chunk.chunk.now in
    let rested = c.fill_buf.follows.lender-at-none in
    let left = g.R.Read.remaining c.consume.new.self in
    let keeps = subst (FillKeeps here (g.R.Read.remaining rested) (g.R.BufRead.consumable_len rested)) c.in_ok-chunk.was c.fill_buf.follows.holds-at-none in
    let taken : Consumes here left chunk = chunk_consumed here (g.R.Read.remaining rested) left (g.R.BufRead.consumable_len rested) chunk c.in_ok-chunk.ensures.front keeps.0 keeps.1 c.consume.ensures.bytes in (
      held.0 ++ chunk,
      Consumes-trans known here left held.0 chunk held.1 taken,
      left_more held.0 chunk c.chunks.cutter c.each_line.new.self held.2 c.in_ok-each_line.ensures.kept,
      chunk_flushed g.S.LineSink.takes g.S.LineSink.done g.met.S.LineSink.takes_both c.args.sink.now c.chunks.sink c.flush.new.self known here left held.0 chunk c.chunks.cutter held.2 held.3 held.1
          c.each_line.new.sink c.each_line.new.self c.in_ok-each_line.ensures.handed (Ok tt) c.in_ok-flush.ensures,
    )
