-- What writing a record promises.
pub mod Written
