-- The numbers, the source, the place or the records refused, or the copy is made.
use Rattle.std.specs.Prelude.{Err}
use mathlib.Core.Path.{◌≡◌, refl}
use borrow.Author.Rules.{rules}
use Rattle.rules_table.specs.Words.{objects_in}
use Rattle.layout_mappings.specs.Words.{records_of}
use Rattle.table.specs.Paged.{page-known, page-aligned}
use Rattle.lists.specs.Tests.{not_zero}
use Rattle.cmd_copy.proofs.Copying.{numbers-known, by-numbers, by-source, by_place, by-records, by-copying}
use Rattle.cmd_copy.proofs.copied_in.Goals as goal

pub returns-in_err-check_numbers : goal.returns-in_err-check_numbers
returns-in_err-check_numbers c = λ e f.
    let is : c.from_residual.result ≡ Err c.in_err-check_numbers.field-0.0 = search rules in
    let a = c.args in
    let os = objects_in a.h.now in
    by-numbers os (records_of a.ms.now.records.now) a.t a.source a.«from» _ _ (c.in_err-check_numbers.ensures.0 os a.source (page-known os a.t.space a.a e) (page-known os a.source a.b f)) is

pub find_source-found-requires : goal.find_source-found-requires
find_source-found-requires c = c.requires.1 (not_zero c.args.b (c.in_ok-check_numbers.ensures.1 refl).1)

pub returns-in_err-m : goal.returns-in_err-m
returns-in_err-m c = λ e f.
    let is : c.from_residual-in_err-m.result ≡ Err c.in_err-m.field-0.0 = search rules in
    let a = c.args in
    let os = objects_in a.h.now in
    let ms = records_of a.ms.now.records.now in
    let passed = c.in_ok-check_numbers.ensures.0 os a.source (page-known os a.t.space a.a e) (page-known os a.source a.b f) in
    by-source os ms a.t a.source a.«from» passed _ c.find_source-found.ensures _ _ c.in_err-m.ensures.0 is

pub place_in-requires : goal.place_in-requires
place_in-requires c = c.requires.0 (not_zero c.args.a (c.in_ok-check_numbers.ensures.1 refl).0)

pub returns-in_err-address : goal.returns-in_err-address
returns-in_err-address c = λ e f.
    let is : c.from_residual-in_err-address.result ≡ Err c.in_err-address.field-0.0 = search rules in
    let a = c.args in
    let os = objects_in a.h.now in
    let ms = records_of a.ms.now.records.now in
    let passed = c.in_ok-check_numbers.ensures.0 os a.source (page-known os a.t.space a.a e) (page-known os a.source a.b f) in
    by_place os ms a.t a.source a.«from» passed _ c.find_source-found.ensures _ (c.in_ok-m.ensures.1 _ refl) c.in_ok-m.ensures.0 _ _
    (c.in_err-address.ensures (page-aligned os a.t.space a.a e (numbers-known os ms a.t a.source a.«from» passed))) is

pub returns-in_err-check_record : goal.returns-in_err-check_record
returns-in_err-check_record c = λ e f.
    let is : c.from_residual-in_err-check_record.result ≡ Err c.in_err-check_record.field-0.0 = search rules in
    let a = c.args in
    let os = objects_in a.h.now in
    let ms = records_of a.ms.now.records.now in
    let passed = c.in_ok-check_numbers.ensures.0 os a.source (page-known os a.t.space a.a e) (page-known os a.source a.b f) in
    by-records os ms a.t a.source a.«from» passed _ c.find_source-found.ensures _ (c.in_ok-m.ensures.1 _ refl) c.in_ok-m.ensures.0 _
    (c.in_ok-address.ensures (page-aligned os a.t.space a.a e (numbers-known os ms a.t a.source a.«from» passed))) _ c.free_record-free.ensures _ _ c.in_err-check_record.ensures is

pub returns : goal.returns
returns c = λ e f.
    let a = c.args in
    let os = objects_in a.h.now in
    let ms = records_of a.ms.now.records.now in
    let passed = c.in_ok-check_numbers.ensures.0 os a.source (page-known os a.t.space a.a e) (page-known os a.source a.b f) in
    by-copying os ms a.t a.source a.«from» passed _ c.find_source-found.ensures _ (c.in_ok-m.ensures.1 _ refl) c.in_ok-m.ensures.0 _
    (c.in_ok-address.ensures (page-aligned os a.t.space a.a e (numbers-known os ms a.t a.source a.«from» passed))) _ c.free_record-free.ensures _ _ c.in_ok-check_record.ensures c.copied.ensures c.put_new.ensures
