mod RoomLaws
mod RowLaws
mod ExactLaws
mod HeadlineLaws
mod AuditLaws
mod ServedLaws
